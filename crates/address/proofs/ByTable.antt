-- The call answers by the table: 8 and 10 as for `list`, and a byte below the object's length is found at its address.
use mathlib.Core.Path.{◌≡◌, refl, sym, ap, ◌∙◌}
use mathlib.Core.Bool.{Bool, not, ◌&&◌, false≢true}
use mathlib.Core.List.{List, [], ◌∷◌}
use mathlib.Core.Logic.{◌⊎◌, inl, inr}
use Prim.Native.Nat.{ℕ, ◌+◌, ◌*◌, ◌^◌, ◌<◌, ◌≤◌}
use native.Mathlib.Omega.{arith}
use lib.Dec.{eqb, leb, ltb}
use lib.ListN.{get_or}
use borrow.Author.Tests.{le-leb, lt-ltb, leb-true, ltb-true, ltb-false, eqb-true, eqb-false, not-true}
use Rattle.bits.proofs.Tests.{by_test, both, and_true}
use Rattle.geometry.specs.declared.Geometry.{Geometry}
use Rattle.geometry.specs.Record.{geometry_of}
use Rattle.geometry.specs.Places.{id_from}
use Rattle.model.specs.Answer.{Answer, unless, and_then}
use Rattle.model.specs.Chain.{Pair}
use Rattle.model.specs.Shown.{listed_on}
use Rattle.model.specs.Refusals.{Refusing, line, ByLines, ByTable, Exactly}
use Rattle.model.proofs.LinesJudged.{unless_line, line_one, by_table}
use Rattle.listing.specs.Listed.{present}
use Rattle.listing.proofs.ByTable.{on_zones, present_line}
use Rattle.address.specs.declared.Location.{Location}
use Rattle.address.specs.Address.{id_of, start_offset, locate, within, number_fits, location_read, location_found}
use Rattle.address.specs.Refusals.{joined, joined_runs, total_length, address_lines, byte_location}
use Rattle.address.proofs.SeekOn.{locate_past}
use Rattle.address.proofs.Joined.{length_total, located}

-- 8
abbrev pub NoNumber : Geometry → ℕ → Type 0
NoNumber g n = (g.version ≡ 1) ⊎ (((2 ≤ id_of n) × (id_of n < g.ids * g.zones) → ⊥) ⊎ (2 ^ 24 ≤ n))

pub fits : (g : Geometry) (n : ℕ) → (g.version ≡ 1 → ⊥) → n < 16777216 → (2 ≤ id_of n) × (id_of n < g.ids * g.zones) → NoNumber g n → ⊥
fits g n v low k (inl e) = v e
fits g n v low k (inr (inl o)) = o k
fits g n v low k (inr (inr f)) = let f2 : 16777216 ≤ n = f in omega arith

number_line : {A : Type 0} (ls : List Refusing) (a : A) (g : Geometry) (n : ℕ) (r : Answer A) → ByLines ls a r
    → ByLines (line 8 (NoNumber g n) ∷ ls) a (unless (number_fits g n) 8 r)
number_line ls a g n r h =
    let id : ℕ = id_of n in
    let end : ℕ = g.ids * g.zones in
    let e : Bool = not (eqb g.version 1) in
    unless_line (number_fits g n) 8 (NoNumber g n) ls a r
    (λ t. by_test (eqb g.version 1)
    (λ v. inl (eqb-true g.version 1 v))
    (λ v. by_test (ltb n 16777216)
    (λ u. inr (inl (λ k. false≢true (sym t
    ∙ and_true e (ltb n 16777216 && id_from 2 g id) (ap not v)
    (and_true (ltb n 16777216) (id_from 2 g id) u (and_true (leb 2 id) (ltb id end) (le-leb 2 id k.0) (lt-ltb id end k.1)))))))
    (λ u. inr (inr (ltb-false n 16777216 u)))))
    (λ t. let o = both e (ltb n 16777216 && id_from 2 g id) t in
    let p = both (ltb n 16777216) (id_from 2 g id) o.1 in
    let q = both (leb 2 id) (ltb id end) p.1 in
    fits g n (eqb-false g.version 1 (not-true (eqb g.version 1) o.0)) (ltb-true n 16777216 p.0) (leb-true 2 id q.0, ltb-true id end q.1))
    (λ t. h)

-- 16
byte_line : (unit : ℕ) (qs : List Pair) (i : ℕ)
    → ByLines (line 16 (total_length qs * unit ≤ i) ∷ []) (record { address = get_or (joined unit qs) i 0; run = get_or (joined_runs unit qs) i 0 }) (within (locate unit qs i))
byte_line unit qs i =
    by_test (ltb i (total_length qs * unit))
    (λ t. let k = ltb-true i (total_length qs * unit) t in
    inr ((λ z p. omega (arith, p.1)), ap within (located unit qs i (omega (arith, length_total unit qs)))))
    (λ t. let k = ltb-false i (total_length qs * unit) t in inl (0, (refl, k), ap within (locate_past unit qs i k)))

pub address_by_table : (m : List ℕ) (n position : ℕ) → Exactly (ByTable m (address_lines m n position) (byte_location m n position)) (location_found m n position)
address_by_table m n position =
    let g : Geometry = geometry_of m in
    let qs : List Pair = listed_on m (id_of n) in
    let i : ℕ = start_offset g n + position in
    let f : List Pair → Answer Location = λ ps. within (locate g.unit ps i) in
    let byte : List Refusing = line 16 (total_length qs * g.unit ≤ i) ∷ [] in
    let a : Location = byte_location m n position in
    by_table m (address_lines m n position) a (line_one 8 _, (line_one 10 _, (line_one 16 _, tt))) (location_read g n position)
    (on_zones m (address_lines m n position) a (location_read g n position)
    (number_line (line 10 (qs ≡ []) ∷ byte) a g n (and_then (present qs) f) (present_line byte a (qs ≡ []) qs f (λ e. e) (λ e. e) (byte_line g.unit qs i))))
