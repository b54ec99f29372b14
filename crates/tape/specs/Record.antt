-- A record of a tape: its kind, and its body as the part of the tape that begins after its kind. Definitions only.
use Rattle.std.specs.Prelude.{ℕ, zero, suc, ◌&&◌, cond, List, [], ◌∷◌, ltb, leb, eqb, length, get_or, Option, Some, None}
use Rattle.float.specs.declared.AvailableSpace.{AvailableSpace}
use Rattle.float.specs.Place.{Call}
use Rattle.tape.specs.declared.record.Record.{Record}
use Rattle.tape.specs.Bytes.{u16_at, f32_at}

-- the table of body lengths, by kind
abbrev pub body_lens : List ℕ
body_lens = 0 ∷ 4 ∷ 22 ∷ 15 ∷ 24 ∷ 5 ∷ 6 ∷ 0 ∷ []

abbrev pub body_len : ℕ → ℕ
body_len k = get_or body_lens k 0

-- after 65,535 is none
unfoldable pub after_at : List ℕ → ℕ → Option ℕ
after_at b i = cond (eqb (u16_at b i) 65535) None (Some (u16_at b i))

-- mode 0 definite, 1 min, 2 max; the number is not read unless definite
unfoldable pub mode_of : ℕ → List ℕ → Option AvailableSpace
mode_of zero b = Some (AvailableSpace.Definite (f32_at b 1))
mode_of (suc zero) b = Some AvailableSpace.MinContent
mode_of (suc (suc zero)) b = Some AvailableSpace.MaxContent
mode_of (suc (suc (suc m))) b = None

-- the record of a placement
abbrev pub place_record : Call → Record
place_record c = Record.Place c.side c.clear c.width c.height c.min_y c.left c.right

-- a whole body, by kind
abbrev pub record_of : ℕ → List ℕ → Record
record_of k b =
    get_or
    (Record.Fresh
    ∷ Record.Width (f32_at b 0)
    ∷ Record.Place (get_or b 0 0) (get_or b 1 0) (f32_at b 2) (f32_at b 6) (f32_at b 10) (f32_at b 14) (f32_at b 18)
    ∷ Record.Content (f32_at b 0) (f32_at b 4) (f32_at b 8) (get_or b 12 0) (after_at b 13)
    ∷ Record.Bfc (f32_at b 0) (f32_at b 4) (f32_at b 8) (f32_at b 12) (f32_at b 16) (get_or b 20 0) (get_or b 21 0) (after_at b 22)
    ∷ Record.Start (mode_of (get_or b 0 0) b)
    ∷ Record.Add (f32_at b 0) (get_or b 4 0) (get_or b 5 0)
    ∷ Record.Result
    ∷ [])
    k
    Record.Fresh

-- nothing for an unknown kind or a cut body
unfoldable pub read_of : ℕ → List ℕ → Option Record
read_of k b = cond (ltb k (length body_lens) && leb (body_len k) (length b)) (Some (record_of k b)) None
