-- The laws of specs/Laws. Those of a map that was read hold since its reading is that of an accepted map.
use mathlib.Core.Path.{◌≡◌, refl, sym, ap, ap₂, ◌∙◌}
use mathlib.Core.Bool.{Bool, false, cond}
use mathlib.Core.List.{List}
use Prim.Native.Nat.{ℕ, suc, ◌+◌, ◌-◌, ◌*◌, ◌%◌, ◌<◌}
use native.Mathlib.Omega.{arith}
use lib.Dec.{eqb}
use borrow.Author.Tests.{eq-eqb, ne_eqb}
use Rattle.geometry.specs.declared.Geometry.{Geometry}
use Rattle.geometry.specs.Record.{version_of, geometry_of}
use Rattle.model.specs.Chain.{Entry}
use Rattle.model.specs.Answer.{refused, answered}
use Rattle.model.specs.Check.{map_read}
use Rattle.model.specs.Pieces.{pieces_of_zones, object_pairs}
use Rattle.listing.proofs.Laws.{accepted, same_zones}
use Rattle.address.specs.Address.{id_of, start_offset, Sought, at, seek, location_found}
use Rattle.address.specs.Laws.{AddressLaws}
use Rattle.address.proofs.Bounds.{whole_object}
use Rattle.address.proofs.ByTable.{address_by_table}
use Rattle.address.proofs.OwnAnswers.{answer_is_byte, one_byte, answer_on_disc}
use Rattle.address.proofs.Joined.{joined_found, joined_ends}
use Rattle.address.proofs.OneToOne.{object_one_to_one}
use Rattle.address.proofs.DiscEnd.{object_on_disc}
use Rattle.address.proofs.ByRuns.{run_in_piece, copied_by_runs, object_copied}

module _ (m : List ℕ) (ess : List (List Entry)) (e : map_read m ≡ answered ess) where
  abbrev g : Geometry
  g = geometry_of m

  -- byte i of an object
  abbrev pub sought : ℕ → ℕ → Sought ℕ
  sought id i = seek g.unit (object_pairs g id (pieces_of_zones g 0 ess)) i

  one_to_one : (id i j x : ℕ) → sought id i ≡ at x → sought id j ≡ at x → i ≡ j
  one_to_one id i j x = rw (sym (same_zones m ess e)) (object_one_to_one (accepted m ess e) id i j x)

  plus_refused : version_of m ≡ 1 → (n position : ℕ) → location_found m n position ≡ refused 8 0
  plus_refused v n position = rw (e, eq-eqb g.version 1 v) refl

  on_disc : (id i x : ℕ) → (id ≡ 1 → ⊥) → sought id i ≡ at x → x < g.size
  on_disc id i x = rw (sym (same_zones m ess e)) (object_on_disc (accepted m ess e) id i x)

-- internal numbers
part_of_object : (g : Geometry) (id s : ℕ) → s < 255 → start_offset g (id * 256 + suc s) ≡ s * g.sector
part_of_object g id s h =
    let e : (id * 256 + suc s) % 256 ≡ suc s = omega arith in
    let d : suc s - 1 ≡ s = omega arith in
    let t : eqb (suc s) 0 ≡ false = ne_eqb (suc s) 0 (λ k. omega arith) in
    ap (λ (x : ℕ). cond (eqb x 0) 0 ((x - 1) * g.sector)) e ∙ ap₂ (λ (b : Bool) (x : ℕ). cond b 0 (x * g.sector)) t d

id_of_law : (id s : ℕ) → s < 256 → id_of (id * 256 + s) ≡ id
id_of_law id s h = omega arith

pub address_laws : AddressLaws
address_laws = record {
  address_by_table = address_by_table;
  plus_refused = plus_refused;
  whole_object = whole_object;
  part_of_object = part_of_object;
  id_of_law = id_of_law;
  answer_is_byte = answer_is_byte;
  one_byte = one_byte;
  answer_on_disc = answer_on_disc;
  run_in_piece = run_in_piece;
  copied_by_runs = copied_by_runs;
  object_copied = object_copied;
  joined_found = joined_found;
  joined_ends = joined_ends;
  one_to_one = one_to_one;
  on_disc = on_disc;
}
