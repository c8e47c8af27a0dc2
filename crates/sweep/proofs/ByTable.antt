-- The sweeps answer by the table: 8 and 10 as for `list`, since an object has pairs from zone 0 on exactly when it has pairs in object
-- order.
use mathlib.Core.Path.{◌≡◌, refl}
use mathlib.Core.Bool.{Bool, not}
use mathlib.Core.List.{List, [], ◌∷◌, ◌++◌, cons≢nil}
use Prim.Native.Nat.{ℕ, ◌+◌, ◌<◌}
use native.Mathlib.Omega.{arith}
use lib.Dec.{leb}
use borrow.Author.Tests.{leb-true, leb-false}
use Rattle.bits.proofs.Tests.{by_test}
use Rattle.geometry.specs.declared.Geometry.{Geometry}
use Rattle.geometry.specs.Record.{geometry_of}
use Rattle.model.specs.Answer.{Answer, answered, and_then}
use Rattle.model.specs.Chain.{Pair, Entry}
use Rattle.model.specs.Pieces.{Piece, keep, rotate, late, pieces_of, free_spans}
use Rattle.model.specs.Shown.{pieces_on, listed_on, spans_on}
use Rattle.model.specs.Refusals.{Refusing, line, ByLines, ByTable, Exactly}
use Rattle.model.proofs.LinesJudged.{unless_line, line_one, by_table}
use Rattle.listing.specs.Listed.{present}
use Rattle.listing.proofs.ByTable.{on_zones, id_line, present_line}
use Rattle.listing.proofs.ObjectOrder.{places}
use Rattle.sweep.specs.Sweep.{Class, on_disc, object_class, object_sweep, free_sweep}
use Rattle.sweep.specs.Refusals.{EndsPast, object_sweep_lines, free_sweep_lines, object_class_on, free_class_on}

-- 16
end_line : (g : Geometry) (first n : ℕ) (qs : List Pair) → ByLines (line 16 (g.size < first + n) ∷ []) (record { unit = g.unit; pairs = qs }) (on_disc g first n qs)
end_line g first n qs =
    let c : Class = record { unit = g.unit; pairs = qs } in
    unless_line (leb (first + n) g.size) 16 (g.size < first + n) [] c (answered c)
    (λ t. leb-false (first + n) g.size t)
    (λ t k. omega (arith, leb-true (first + n) g.size t))
    (λ t. refl)

-- the same pairs in another order: none of the one, none of the other
not_none : (xs : List Piece) (p : Piece) (ys : List Piece) → places (xs ++ p ∷ ys) ≡ [] → ⊥
not_none [] p ys e = cons≢nil e
not_none (x ∷ xs) p ys e = cons≢nil e

none_rotated : (t : Piece → Bool) (ps : List Piece) → places ps ≡ [] → places (rotate t ps) ≡ []
none_rotated t [] e = refl
none_rotated t (p ∷ ps) e = absurd (cons≢nil e)

rotated_none : (t : Piece → Bool) (ps : List Piece) → places (rotate t ps) ≡ [] → places ps ≡ []
rotated_none t [] e = refl
rotated_none t (p ∷ ps) e =
    by_test (t p)
    (λ u. absurd (cons≢nil (simp u at e)))
    (λ u. absurd (not_none (keep t ps) p (keep (λ x. not (t x)) ps) (simp u at e)))

pub sweep_by_table : (m : List ℕ) (id first n : ℕ) → Exactly (ByTable m (object_sweep_lines m id first n) (object_class_on m id)) (object_sweep m id first n)
sweep_by_table m id first n =
    let g : Geometry = geometry_of m in
    let ps : List Piece = pieces_of id (pieces_on g m) in
    let qs : List Pair = places ps in
    let c : Class = object_class_on m id in
    let end : List Refusing = line 16 (EndsPast m first n) ∷ [] in
    by_table m (object_sweep_lines m id first n) c (line_one 8 _, (line_one 10 _, (line_one 16 _, tt))) (object_class g id first n)
    (on_zones m (object_sweep_lines m id first n) c (object_class g id first n)
    (id_line (line 10 (listed_on m id ≡ []) ∷ end) c 3 g id (and_then (present qs) (on_disc g first n))
    (present_line end c (listed_on m id ≡ []) qs (on_disc g first n) (none_rotated (late g id) ps) (rotated_none (late g id) ps) (end_line g first n qs))))

pub free_sweep_by_table : (m : List ℕ) (first n : ℕ) → Exactly (ByTable m (free_sweep_lines m first n) (free_class_on m)) (free_sweep m first n)
free_sweep_by_table m first n =
    let g : Geometry = geometry_of m in
    let k : List (List Entry) → Answer Class = λ ess. on_disc g first n (free_spans g 0 ess) in
    by_table m (free_sweep_lines m first n) (free_class_on m) (line_one 16 _, tt) k
    (on_zones m (free_sweep_lines m first n) (free_class_on m) k (end_line g first n (spans_on m)))
