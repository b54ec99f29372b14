-- `words::beside::live` meets its contract: a count past the end of the array is the same as its length.
use Rattle.std.proofs.Common.{min, take, sym, ap, ◌∙◌}
use Rattle.std.proofs.lemmas.List.{take_min}
use Rattle.words.proofs.beside.live.Goals as goal

pub returns-clause-is : goal.returns-clause-is
returns-clause-is c = ap (λ n. take n c.args.bands.now) (c.min.ensures ∙ ap (min c.args.count) (sym c.told-bands)) ∙ take_min c.args.count c.args.bands.now
