-- A call of `place_in` on a page that lies in a caller's local: for a walk by hand of a function that makes one.
-- `lent` is the call, over any context: the page's cell is lent for a lifetime that is made for the call; the call returns, the lifetime ends, and the cell comes back with the page that `place_in`'s contract says, beside the answer.
-- Assumes nothing.
use Rattle.std.proofs.Common.{◌≡◌, ℕ, List, [], ◌∷◌, refl, w8, MutBor, Result}
use seplogic.Ra.Ura.{Ura}
use base.Fraction.{full_share}
use lib.Ieee.{binary32}
use mir.Syntax.{Opd as Operand, Place, Body, Ty, call, seq, named}
use mir.Val.{Val, vptr}
use base.Logic.{SProp, ent, ex, sep, emp, snd∗, ex_e, id⊢}
use base.Fml.{GName, ftrue, fat, flft, flent}
use prog.Memory.{Memory}
use prog.Routine.{Routine}
use prog.Wp.{Env, Calls, Loops}
use types.Logic.{Logic, sem}
use contract.Monad.{Fun, fact}
use contract.Lifetimes.{Lfts}
use types.Kit.{Item, ‵, raw, ◌⊛◌, some, later, ◌$◌, ◌∵◌, !, Seq, Post as After, runs, lands, qed, move, drop, use0, use1, use2, use3, split, join, pick, fsplit, fjoin, frame, await, done}
use types.Tokens.{lft_new, lft_end}
use types.Run.{Opds}
use types.SemTy.{Body as Held}
use sound.WpLaws.{FmC}
use denote.RattleType.{RattleType, Denots, Valss, flat, owns}
use denote.Laws.{Is, Ises, Are, Spells, valss, Makes, owns_make}
use denote.Memory.{mem, lone}
use denote.Floats.{float_vals, float_Makes}
use denote.Plain.{uint_vals, uint_Makes}
use denote.Builtin.{f32, u8}
use denote.Ref.{MutRef}
use denote.Lend.{lends_ref, ref_back}
use denote.Steps.{heard, nothing}
use denote.Triple.Statement.{Contract, Triple}
use denote.Triple.Call.{calls_at}
use denote.Triple.Entry.{Args}
use denote.Triple.Spec.{triple_of}
use denote.Triple.Clauses.{Ended, Lasts, ensured, lasts}
use borrow.Table.OneValue.{part_in, part_out}
use Rattle.float.specs.declared.FloatContext.{FloatContext}
use Rattle.float.specs.Place.{Call, place_of}
use Rattle.float.specs.contracts.FloatContext as T
use Rattle.float.specs.contracts.Position as S
use Rattle.float.specs.contracts.Refusal as N
use Rattle.std.specs.contracts.result.Result as R
use Rattle.float.specs.contracts.FloatContext.place_in as place_in_is
use Rattle.float.specs.contracts.FloatContext.place_in.Key.{name as #place_in}
use Rattle.float.specs.declared.Refusal.{Refusal}
use Rattle.float.specs.declared.Position.{Position}

-- the numbers of a call: width, height, min_y, left, right, side, clear
abbrev pub numbers : List RattleType
numbers = f32 ∷ f32 ∷ f32 ∷ f32 ∷ f32 ∷ u8 ∷ u8 ∷ []

abbrev pub spells : Spells numbers
spells =
    let x : f32.Denot → List Val = float_vals binary32 in
    let k : u8.Denot → List Val = uint_vals w8 in
    (x, (x, (x, (x, (x, (k, (k, tt)))))))

abbrev pub asked : Denots numbers → Call
asked ns = record { side = ns.1.1.1.1.1.0; clear = ns.1.1.1.1.1.1.0; width = ns.0; height = ns.1.0; min_y = ns.1.1.0; left = ns.1.1.1.0; right = ns.1.1.1.1.0 }

-- each is a number of its type
abbrev pub AreNumbers : Denots numbers → Type 0
AreNumbers ns = Are numbers (Ises numbers) ns (valss numbers spells ns)

-- the answer a and the page p are those of the call on the page h
abbrev pub Says : Result Position Refusal → FloatContext → FloatContext → Denots numbers → Type 0
Says a p h ns = record { answer = a; page = p } ≡ place_of h (asked ns)

abbrev pub τ : Ty
τ = lone (T.the_row).mir

module _ {M : Type 1} {𝓤 : Ura M} (𝓛 : Logic 𝓤) where
  -- what a function by value ensures, without the last values that nothing is said of
  pub said : (t : Ended) (κs : Lfts t.signature.lifetimes) (a : Args t.signature κs) (Q : SProp 𝓤) → ent 𝓤 (ex 𝓤 (λ ws. sep 𝓤 (sem 𝓛 (lasts t κs a ws)) Q)) Q
  said t κs a Q = ex_e 𝓤 _ (λ ws. snd∗ 𝓤 (sem 𝓛 (lasts t κs a ws)) Q)

  -- what the numbers own is made from nothing
  pub made : (ns : Denots numbers) → AreNumbers ns → ent 𝓤 (emp 𝓤) (sem 𝓛 (owns numbers ns (valss numbers spells ns)))
  made ns =
      let x : Makes 𝓛 f32 (Is f32) = float_Makes 𝓛 binary32 in
      let k : Makes 𝓛 u8 (Is u8) = uint_Makes 𝓛 w8 in
      owns_make 𝓛 numbers (Ises numbers) (x, (x, (x, (x, (x, (k, (k, tt))))))) ns (valss numbers spells ns)

  abbrev pub PlaceIn : (Memory → SProp 𝓤) → (Routine → Fun 𝓤) → Contract 𝓤
  PlaceIn at_mem run = triple_of 𝓛 place_in_is.signature (place_in_is.spec 𝓛 at_mem run)

-- the page in the block b is h before the call
module _ {M : Type 1} {𝓤 : Ura M} (𝓛 : Logic 𝓤) (at_mem : Memory → SProp 𝓤) (run : Routine → Fun 𝓤) (b : ℕ) (h : FloatContext) (ns : Denots numbers) where
  open 𝓛 use {H, A}

  abbrev vs : Valss numbers
  vs = valss numbers spells ns

  abbrev ref : GName → MutBor FloatContext
  ref γ = record { ref_ptr = (b, 0); ghost_name = γ; now = h }

  abbrev pub to : ℕ → GName → (PlaceIn 𝓛 at_mem run).Ghost
  to α γ = (((α ∷ [], tt), (full_share, tt), tt, (ref γ, ns), (vptr b 0 ∷ [], vs)), tt)

  goes : AreNumbers ns → (α : ℕ) (γ : GName) → ent 𝓤 (sep 𝓤 (A.lft (α ∷ []) full_share) (sem 𝓛 ((MutRef (named 0) (α ∷ []) T.the_row).own_val (ref γ) (vptr b 0 ∷ [])))) ((PlaceIn 𝓛 at_mem run).pre (to α γ))
  goes are α γ =
      qed 𝓛 (‵ (flft (α ∷ []) full_share) ∷ ‵ ((MutRef (named 0) (α ∷ []) T.the_row).own_val (ref γ) (vptr b 0 ∷ [])) ∷ []) ∵
      use0 𝓛 (‵ (owns numbers ns vs)) (made 𝓛 ns are) $ move ! (2 ∷ 0 ∷ []) $ fjoin ! $ nothing ! $ move ! (2 ∷ 0 ∷ []) $ join ! $ join ! $ frame ! $ done !

  pub lent : {K : Type 0} {Γ : List (Item 𝓤)} {C : Calls 𝓤 H} {Λ : Loops 𝓤 H} {En : Env 𝓤 H} {q : After 𝓤 H} {xs : List Operand} {d : Place} {rest : Body}
      → K → FmC 𝓤 H 𝓛.laws C → Triple 𝓤 (C #place_in) (PlaceIn 𝓛 at_mem run) → AreNumbers ns → (v : Val)
      → ((α : ℕ) (γ : GName) → Opds K 𝓛 (raw ((PlaceIn 𝓛 at_mem run).pre (to α γ)) ∷ ‵ (flent (α ∷ []) (Held (mem T.the_row) b 0 γ)) ∷ Γ) En xs (vptr b 0 ∷ flat numbers vs))
      → ((a : Result Position Refusal) (p : FloatContext) (y u : Val) → Says a p h ns → Seq K 𝓛 (‵ (fat full_share τ b 0 u) ∷ ‵ ((T.the_row).own_val p (u ∷ [])) ∷ ‵ ((R.the_row S.the_row N.the_row).own_val a (y ∷ [])) ∷ Γ) (lands C Λ En d y rest q))
      → Seq K 𝓛 (‵ (fat full_share τ b 0 v) ∷ ‵ ((T.the_row).own_val h (v ∷ [])) ∷ Γ) (runs C Λ En (seq (call #place_in xs d) rest) q)
  lent t fm known are v o k =
      use2 𝓛 (‵ ((mem T.the_row).own_at h b 0)) (part_in 𝓛 T.the_row refl full_share h b 0 v) $ lft_new t tt (λ α. move t (1 ∷ []) $
      use1 𝓛 (later (some (λ (γ : GName). ‵ ((MutRef (named 0) (α ∷ []) T.the_row).own_val (ref γ) (vptr b 0 ∷ [])) ⊛ ‵ (flent (α ∷ []) (Held (mem T.the_row) b 0 γ))))) (lends_ref 𝓛 T.the_row (named 0) (α ∷ []) h b 0) $ await t tt $ pick t (λ γ. split t $
      -- [the reference; the lender's part; the token; …]
      move t (2 ∷ 0 ∷ []) $ use2 𝓛 (raw ((PlaceIn 𝓛 at_mem run).pre (to α γ))) (goes are α γ) $ calls_at t fm (PlaceIn 𝓛 at_mem run) known (to α γ) (o α γ) (λ y.
      use1 𝓛 (later (some (λ (a : Result Position Refusal). ((‵ (flft (α ∷ []) full_share) ⊛ ‵ ftrue) ⊛ ‵ ((R.the_row S.the_row N.the_row).own_val a (y ∷ []))) ⊛ raw (ensured 𝓛 place_in_is.ended (place_in_is.clauses 𝓛 at_mem run) (α ∷ [], tt) (ref γ, ns) tt a)))) (id⊢ 𝓤 _) $ await t tt $ pick t (λ a. split t $ move t (1 ∷ []) $
      use1 𝓛 (some (λ (ws : Lasts place_in_is.ended (α ∷ [], tt) (ref γ, ns)). ‵ (lasts place_in_is.ended (α ∷ [], tt) (ref γ, ns) ws) ⊛ raw (fact 𝓤 (Says a ws.0 h ns)))) (id⊢ 𝓤 _) $ pick t (λ ws. split t $ move t (1 ∷ []) $ heard t (Says a ws.0 h ns) (λ e. fsplit t $
      -- [what the reference leaves: its last page and its borrow; nothing; the token and the answer; the lender's part; …]
      fsplit t $ move t (1 ∷ []) $ drop t $
      -- [the last page; nothing; the token and the answer; the lender's part; …]
      move t (2 ∷ []) $ split t $ split t $ lft_end t tt $ move t (0 ∷ 5 ∷ 3 ∷ []) $ use3 𝓛 (later (‵ ((mem T.the_row).own_at ws.0 b 0))) (ref_back 𝓛 T.the_row (α ∷ []) γ ws.0 b 0) $ await t tt $
      use1 𝓛 (some (λ (u : Val). ‵ (fat full_share τ b 0 u) ⊛ ‵ ((T.the_row).own_val ws.0 (u ∷ [])))) (part_out 𝓛 T.the_row refl full_share ws.0 b 0) $ pick t (λ u. split t $
      -- [the page's cell; what it owns; nothing; the answer; nothing; …]
      move t (2 ∷ []) $ drop t $ move t (3 ∷ []) $ drop t $ k a ws.0 y u e)))))))
