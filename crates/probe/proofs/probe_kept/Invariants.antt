-- `probe_kept`'s loop: the page and the height of the next box are those after so many boxes.
use Rattle.std.proofs.Common.{◌≡◌}
use Rattle.probe.specs.Kept.{page_after, top_after}
use Rattle.probe.proofs.probe_kept.Given as goal

abbrev pub invariant-loop : goal.invariant-loop
invariant-loop l = (l.page ≡ page_after l.wide l.side l.width l.height l.step l.counter) × (l.top ≡ top_after l.step l.counter)
