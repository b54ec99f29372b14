-- `tape::step::State::step` meets its contract: each arm has its record, and each call leaves and tells what the definition does.
use Rattle.std.specs.Prelude.{Option, None, Result}
use mathlib.Core.Path.{refl, sym, ap, ◌∙◌}
use Rattle.float.specs.declared.BfcSlot.{BfcSlot}
use Rattle.float.specs.declared.ContentSlot.{ContentSlot}
use Rattle.float.specs.declared.FloatIntrinsicWidthCalculator.{FloatIntrinsicWidthCalculator}
use Rattle.float.specs.declared.Refusal.{Refusal}
use Rattle.float.specs.declared.Added.{Added}
use Rattle.tape.specs.Lines.{refused_line, content_line, bfc_line}
use Rattle.tape.specs.Tape.{told, widened, placed, on_calculator, started, added_to, add_to, step_of}
use Rattle.tape.proofs.Stepping.{of_known, of_answered}
use Rattle.tape.proofs.step.State.step.Goals as goal

pub returns-in-Fresh : goal.returns-in-Fresh
unfolding step_of
returns-in-Fresh c = of_known (step_of c.args.self.now) c.in-Fresh.is (record { after = c.renew.ensures; line = c.letter_line.ensures })

pub returns-in-Width : goal.returns-in-Width
unfolding step_of
returns-in-Width c =
    let s = c.args.self.now in
    of_known (step_of s) c.in-Width.is (of_known (widened s) (sym c.set_width_in-answer.ensures) (record { after = refl; line = c.done_line.ensures }))

pub returns-in-Place : goal.returns-in-Place
unfolding step_of
returns-in-Place c =
    let s = c.args.self.now in
    of_known (step_of s) c.in-Place.is (of_known (placed s) (sym c.place_in-answer.ensures) (record { after = refl; line = c.place_line.ensures }))

pub returns-in-Content : goal.returns-in-Content
unfolding step_of
returns-in-Content c =
    let s = c.args.self.now in
    of_known (step_of s) c.in-Content.is (of_answered (λ (r : Result ContentSlot Refusal). told s (content_line r)) c.find_content_slot-answer.ensures (record { after = refl; line = c.content_line.ensures }))

pub returns-in-Bfc : goal.returns-in-Bfc
unfolding step_of
returns-in-Bfc c =
    let s = c.args.self.now in
    of_known (step_of s) c.in-Bfc.is (of_answered (λ (r : Result BfcSlot Refusal). told s (bfc_line r)) c.find_bfc_slot-answer.ensures (record { after = refl; line = c.bfc_line.ensures }))

pub returns-in-Ok : goal.returns-in-Ok
unfolding step_of started
returns-in-Ok c =
    let s = c.args.self.now in
    of_known (step_of s) c.in-Start.is (of_known (λ (r : Result FloatIntrinsicWidthCalculator Refusal). on_calculator s (started s.calculator r)) (sym c.start_of.ensures ∙ c.in-Ok.is) (record { after = refl; line = c.letter_line-in-Ok.ensures }))

pub returns-in-Err : goal.returns-in-Err
unfolding step_of started
returns-in-Err c =
    let s = c.args.self.now in
    of_known (step_of s) c.in-Start.is (of_known (λ (r : Result FloatIntrinsicWidthCalculator Refusal). on_calculator s (started s.calculator r)) (sym c.start_of.ensures ∙ c.in-Err.is) (record { after = refl; line = c.refused_line.ensures }))

pub returns-in-Some : goal.returns-in-Some
unfolding step_of add_to
returns-in-Some c =
    let s = c.args.self.now in
    let a = c.in-Add in
    of_known (step_of s) a.is
    (of_known (λ (k : Option FloatIntrinsicWidthCalculator). on_calculator s (add_to k a.width a.side a.clear)) c.in-Some.is
    (of_answered (λ (r : Added). on_calculator s (added_to r)) c.add_float-added.ensures (record { after = refl; line = c.done_line-in-Some.ensures })))

pub returns-in-None : goal.returns-in-None
unfolding step_of add_to
returns-in-None c =
    let s = c.args.self.now in
    let a = c.in-Add in
    of_known (step_of s) a.is
    (of_known (λ (k : Option FloatIntrinsicWidthCalculator). on_calculator s (add_to k a.width a.side a.clear)) c.in-None.is
    (of_answered (λ (n : Refusal). on_calculator s (told None (refused_line n))) c.not_added.ensures
    (record { after = ap (λ (k : Option FloatIntrinsicWidthCalculator). record { page = s.page; calculator = k }) c.in-None.is; line = c.refused_line-in-None.ensures })))

pub returns-in-Result : goal.returns-in-Result
unfolding step_of
returns-in-Result c = of_known (step_of c.args.self.now) c.in-Result.is (record { after = refl; line = c.result_line.ensures })
