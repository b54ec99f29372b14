-- `float::search::look` meets its contract. Both loops' invariants say that the search comes from its first state to this one with the steps counted so far;
-- a start or an end that is given up raises the sum of the two, so there are at most two steps a band.
use Rattle.std.proofs.Common.{◌≡◌, ◌+◌, ◌-◌, ◌<◌, ◌≤◌}
use Rattle.float.specs.Search.{at_start, at_end, try_from}
use Rattle.float.proofs.Turns.{Comes}
use Rattle.float.proofs.search.look.Given as goal

abbrev pub invariant-loop-end : goal.invariant-loop-end
invariant-loop-end l =
    (l.start ≡ l.initial.start)
    × (l.start < l.n)
    × (l.start ≤ l.end)
    × (l.end ≤ l.n)
    × (l.steps + l.first + l.first ≤ l.start + l.end)
    × Comes l.bands l.ask (at_start (try_from l.first l.min_y)) (at_end (record { start = l.start; end = l.end; y = l.y; steps = l.steps }) l.reach) l.steps

abbrev pub decreases-loop-end : goal.decreases-loop-end
decreases-loop-end l = l.n - l.end

abbrev pub invariant-outer : goal.invariant-outer
invariant-outer l =
    (l.start ≤ l.end)
    × (l.end ≤ l.n)
    × (l.steps + l.first + l.first ≤ l.start + l.end)
    × Comes l.bands l.ask (at_start (try_from l.first l.min_y)) (at_start (record { start = l.start; end = l.end; y = l.y; steps = l.steps })) l.steps

abbrev pub decreases-outer : goal.decreases-outer
decreases-outer l = l.n - l.start
