-- Bytes put into the room where they are to stand, and the run of a tape. No promise to a reader names them. Definitions only.
use Rattle.std.specs.Prelude.{ℕ, ◌+◌, ◌*◌, min, ◌≤◌, ◌<◌, ◌⊎◌, ◌≡◌, List, [], ◌∷◌, ◌++◌, length, take, drop}
use Rattle.float.specs.declared.FloatContext.{FloatContext}
use Rattle.float.specs.Page.{page_of, stored, fresh_context}
use Rattle.tape.specs.declared.line.Out.{Out}
use Rattle.tape.specs.declared.step.State.{State}
use Rattle.tape.specs.Bytes.{decimal, row}
use Rattle.tape.specs.Tape.{Told, run, lines_of, broken_line, runs}

-- no line ends past this: eleven bytes for each byte of the longest tape, and a line
abbrev pub reach : ℕ
reach = 720960

-- t was put at i into l, which is then m: r is the place after it, and what stood past r still stands; where r is in l, t stands, and so does what stood before i
pub record Put (l : List ℕ) (i : ℕ) (t m : List ℕ) (r : ℕ) : Type 0 where
  pub next : r ≡ i + length t
  pub long : length m ≡ length l
  pub text : r ≤ length l → take r m ≡ take i l ++ t
  pub rest : drop r m ≡ drop r l

-- the same of the room of o and its place: p has that room, and the place after t
pub record Puts (o : Out) (t : List ℕ) (p : Out) : Type 0 where
  pub same : p.room.ghost_name ≡ o.room.ghost_name
  pub put : Put o.room.now o.at t p.room.now p.at

-- the same of a line, which has at most 64 bytes
pub record Line (o : Out) (t : List ℕ) (p : Out) : Type 0 where
  pub short : p.at ≤ o.at + 64
  pub puts : Puts o t p

-- t is told: a is what it leaves, and its line was put into the room of o, which is then p
pub record Tells {A : Type 0} (t : Told A) (a : A) (o p : Out) : Type 0 where
  pub after : a ≡ t.after
  pub line : Line o t.line p

-- the tape t was run from the state s₀ on: s is the state after it, and its lines were put at the front of a, which is then b: they have r bytes
pub record Runs (t : List ℕ) (s₀ : State) (a b : List ℕ) (s : State) (r : ℕ) : Type 0 where
  pub few : r ≤ 11 * length t
  pub put : Put a 0 (run (length t) 0 t s₀) b r
  pub after : s ≡ runs (length t) t s₀

-- the lines of the tape t were put at the front of a, which is then b: they have r bytes
pub record Answered (t a b : List ℕ) (r : ℕ) : Type 0 where
  pub few : r ≤ 11 * min (length t) 65536
  pub put : Put a 0 (lines_of t) b r

-- the tape t stops at r, or is whole and ends there
pub record Stops (t : List ℕ) (r : ℕ) : Type 0 where
  pub inside : r ≤ length t
  pub whole : length t ≤ r → broken_line t ≡ []
  pub stopped : r < length t → broken_line t ≡ row 84 (decimal r ∷ [])

-- the room a takes the lines of the tape t: they are known to fit, or there are eleven bytes for each byte of the tape
abbrev pub Roomy : List ℕ → List ℕ → Type 0
Roomy t a = (length (lines_of t) ≤ length a) ⊎ (11 * length t ≤ length a)

-- the places of a page's arrays past its counts stand as in a fresh page: it is what it holds, stored in one
abbrev pub Blank : FloatContext → Type 0
Blank p = p ≡ stored (page_of p) fresh_context
