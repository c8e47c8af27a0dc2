-- A sweep of a stretch of disc image (document 01, "Sweep", refusals 8, 10, 16): the fill at each address of the class within
-- the stretch, every other byte as it was, and how many addresses those are. Assumes nothing.
use Rattle.std.specs.Prelude.{◌≡◌, Bool, false, cond, ◌&&◌, ◌||◌, List, [], ◌∷◌, map, ℕ, zero, suc, ◌+◌, ◌*◌, ltb, leb, length, Result, Ok, Err}
use Rattle.geometry.specs.declared.Geometry.{Geometry}
use Rattle.geometry.specs.Record.{geometry_of}
use Rattle.geometry.specs.Places.{id_from}
use Rattle.geometry.specs.declared.Refusal.{Refusal}
use Rattle.geometry.specs.Answers.{number, refusal}
use Rattle.model.specs.Answer.{Answer, refused, answered, unless, and_then}
use Rattle.model.specs.Chain.{Pair, Entry}
use Rattle.model.specs.Check.{map_read}
use Rattle.model.specs.Pieces.{Piece, pieces_of_zones, pieces_of, free_spans}
use Rattle.walk.specs.HeldBy.{held_from}
use Rattle.listing.specs.Listed.{present}

-- an address lies in one of the pairs, at `unit` bytes a map bit
abbrev pub in_pair : ℕ → Pair → ℕ → Bool
in_pair unit q a = leb (q.start * unit) a && ltb a ((q.start + q.len) * unit)

abbrev pub covers : ℕ → List Pair → ℕ → Bool
covers unit [] a = false
covers unit (q ∷ qs) a = in_pair unit q a || covers unit qs a

-- the stretch from address a on, swept
abbrev pub swept_bytes : ℕ → List Pair → ℕ → ℕ → List ℕ → List ℕ
swept_bytes unit qs fill a [] = []
swept_bytes unit qs fill a (b ∷ bs) = cond (covers unit qs a) fill b ∷ swept_bytes unit qs fill (suc a) bs

-- how many of n addresses from a on are of the class
abbrev pub covered_count : ℕ → List Pair → ℕ → ℕ → ℕ
covered_count unit qs a zero = 0
covered_count unit qs a (suc n) = cond (covers unit qs a) 1 0 + covered_count unit qs (suc a) n

-- the counts of the pairs one by one; of pairs that do not overlap that is the count of all
abbrev pub pair_counts : ℕ → List Pair → ℕ → ℕ → ℕ
pair_counts unit [] first n = 0
pair_counts unit (q ∷ qs) first n = covered_count unit (q ∷ []) first n + pair_counts unit qs first n

-- the pairs of the class, and the bytes of a map bit
pub record Class : Type 0 where
  pub unit : ℕ
  pub pairs : List Pair

-- 16: "stretch ending past disc_size", an empty one too
abbrev pub on_disc : Geometry → ℕ → ℕ → List Pair → Answer Class
on_disc g first n qs = unless (leb (first + n) g.size) 16 (answered (record { unit = g.unit; pairs = qs }))

-- what one holder has on a map that is accepted
abbrev pub held_sweep : Geometry → ℕ → List ℕ → ℕ → ℕ → Answer Class
held_sweep g holder m first n = on_disc g first n (held_from g holder m 0 g.zones)

-- an object's pairs, from zone 0 on: to a sweep their order is nothing
abbrev pub object_spans : Geometry → ℕ → List (List Entry) → List Pair
object_spans g id ess = map (λ (p : Piece). p.at) (pieces_of id (pieces_of_zones g 0 ess))

-- 8, 10, 16
abbrev pub object_class : Geometry → ℕ → ℕ → ℕ → List (List Entry) → Answer Class
object_class g id first n ess = unless (id_from 3 g id) 8 (and_then (present (object_spans g id ess)) (on_disc g first n))

abbrev pub object_sweep : List ℕ → ℕ → ℕ → ℕ → Answer Class
object_sweep m id first n = and_then (map_read m) (object_class (geometry_of m) id first n)

-- free space
abbrev pub free_sweep : List ℕ → ℕ → ℕ → Answer Class
free_sweep m first n = and_then (map_read m) (λ (ess : List (List Entry)). on_disc (geometry_of m) first n (free_spans (geometry_of m) 0 ess))

-- the answer and the stretch afterwards
abbrev pub sweep_answer : ℕ → ℕ → Answer Class → Result ℕ Refusal
sweep_answer first n (answered c) = Ok (covered_count c.unit c.pairs first n)
sweep_answer first n (refused k z) = Err (refusal k z)

abbrev pub image_after : ℕ → ℕ → List ℕ → Answer Class → List ℕ
image_after first fill image (answered c) = swept_bytes c.unit c.pairs fill first image
image_after first fill image (refused k z) = image

-- the paper's numbers: refusal (0: accepted), zone told, count
abbrev pub sweep_numbers : Result ℕ Refusal → ℕ × ℕ × ℕ
sweep_numbers (Ok n) = (0, 0, n)
sweep_numbers (Err r) = (number r.reason, r.zone, 0)

-- as the table gives them for the class that is found
abbrev pub sweep_told : ℕ → ℕ → Answer Class → ℕ × ℕ × ℕ
sweep_told first n (refused k z) = (k, z, 0)
sweep_told first n (answered c) = (0, 0, covered_count c.unit c.pairs first n)

-- the answer with its numbers, and every byte of the stretch
pub record Sweeps (found : Answer Class) (first fill : ℕ) (old : List ℕ) (r : Result ℕ Refusal) (new : List ℕ) : Type 0 where
  pub answer : r ≡ sweep_answer first (length old) found
  pub numbers : sweep_numbers r ≡ sweep_told first (length old) found
  pub image : new ≡ image_after first fill old found
