-- Byte i sought in the pairs of one part, and then in those of the next: what is left of i there goes on, so a walk seeks the same
-- byte in the lines that remain. Past all the pairs' bytes nothing is found; of pairs that lie apart those are no more than
-- where they lie has.
use mathlib.Core.Path.{◌≡◌, refl, sym, ap, ap₂, ◌∙◌}
use mathlib.Core.List.{List, [], ◌∷◌, ◌++◌, map, map-append, map-id}
use Prim.Native.Nat.{ℕ, suc, ◌+◌, ◌-◌, ◌*◌, ◌<◌, ◌≤◌}
use native.Mathlib.Nat.{zero-mul, sub-zero}
use native.Mathlib.Omega.{arith}
use lib.Dec.{eqb, ltb}
use lib.ListN.{length, drop}
use lib.Seq.{drop-cons}
use Rattle.std.proofs.lemmas.List.{take-append-drop}
use Rattle.std.proofs.lemmas.List.Elements.{filter-append}
use borrow.Author.Tests.{lt-ltb, le-ltb}
use Rattle.std.specs.Prelude.{Option, Some, None}
use Rattle.std.specs.Iterator.{Yields}
use Rattle.std.specs.List.{filter}
use Rattle.std.proofs.lemmas.Iterator.{YieldsList}
use Rattle.std.proofs.lemmas.Iterator.Consumers.{YieldsList-so_far, YieldsList-turn, YieldsList-end}
use Rattle.bits.proofs.Tests.{by_test}
use Rattle.geometry.specs.declared.Geometry.{Geometry}
use Rattle.model.specs.Chain.{Pair}
use Rattle.walk.specs.declared.Line.{Line}
use Rattle.walk.specs.Remaining.{lines_from}
use Rattle.walk.specs.HeldBy.{held_lines, held_in_order}
use Rattle.walk.proofs.HeldLines.{held_some, held_whole}
use Rattle.listing.proofs.Ascend.{Apart}
use Rattle.address.specs.declared.Location.{Location}
use Rattle.address.specs.Address.{Sought, at, past, locate}
use Rattle.address.specs.Refusals.{total_length}

module _ (unit : ℕ) where
  -- on into the next pairs
  abbrev pub go_on : List Pair → Sought Location → Sought Location
  go_on qs (at l) = at l
  go_on qs (past j) = locate unit qs j

  pub locate_append : (ps qs : List Pair) (i : ℕ) → locate unit (ps ++ qs) i ≡ go_on qs (locate unit ps i)
  locate_append [] qs i = refl
  locate_append (p ∷ ps) qs i =
      by_test (ltb i (p.len * unit))
      (λ t. rw t)
      (λ t. rw t (locate_append ps qs (i - p.len * unit)))

-- a line's piece, and those of an object's lines in object order
abbrev pub piece_of : Line → Pair
piece_of l = record { start = l.start.0; len = l.len }

pub pieces_held : (h : ℕ) (ls : List Line) → map piece_of (filter (λ l. eqb l.holder h) ls) ≡ held_lines h ls
pieces_held h [] = refl
pieces_held h (l ∷ ls) =
    by_test (eqb l.holder h)
    (λ t. rw t (ap (λ (qs : List Pair). piece_of l ∷ qs) (pieces_held h ls)))
    (λ t. rw t (pieces_held h ls))

pub pieces_in_order : (g : Geometry) (h : ℕ) (m : List ℕ) (start : ℕ) {late early : List Line} → late ≡ lines_from g m start (g.zones - start) → early ≡ lines_from g m 0 (start - 0)
    → map piece_of (filter (λ l. eqb l.holder h) (late ++ early)) ≡ held_in_order g h m start
pieces_in_order g h m start {late} {early} e k =
    ap (map piece_of) (filter-append (λ (l : Line). eqb l.holder h) late early)
    ∙ map-append piece_of (filter (λ l. eqb l.holder h) late) (filter (λ l. eqb l.holder h) early)
    ∙ ap₂ (λ (x y : List Pair). x ++ y) (pieces_held h late ∙ held_some h g m start g.zones e) (pieces_held h early ∙ held_whole h g m start k)

-- what the next line says, where the byte is in none so far: it has the byte, or has not; or there is none, and the byte is past them all
abbrev pub NextSays : ℕ → List Pair → ℕ → ℕ → Option Line → Type 0
NextSays unit qs i left None = locate unit qs i ≡ past left
NextSays unit qs i left (Some l) = left < l.len * unit → locate unit qs i ≡ at (record { address = l.start.0 * unit + left; run = l.len * unit - left })

-- an object's lines in object order
module _ (g : Geometry) (id : ℕ) (m : List ℕ) (start i : ℕ) {late early : List Line} (late_is : late ≡ lines_from g m start (g.zones - start))
    (early_is : early ≡ lines_from g m 0 (start - 0)) where
  abbrev all : List Line
  all = filter (λ l. eqb l.holder id) (late ++ early)

  among : (ls : List Line) → ls ≡ filter (λ l. eqb l.holder id) (late ++ early) → locate g.unit (map piece_of ls) i ≡ locate g.unit (held_in_order g id m start) i
  among ls e = ap (λ (x : List Line). locate g.unit (map piece_of x) i) e ∙ ap (λ (x : List Pair). locate g.unit x i) (pieces_in_order g id m start late_is early_is)

  -- a loop over them that has found the byte in none of the lines xs
  module _ {S : Type 0} {steps : S → Option Line → S → Type 0} {s : S} (t : S) (xs : List Line) (y : Yields steps s xs t) {left : ℕ}
      (so_far : locate g.unit (map piece_of xs) i ≡ past left) (u : S) (road : YieldsList steps (λ l. l) s (filter (λ l. eqb l.holder id) (late ++ early))) where
    pub next_line : (r : Option Line) → steps t r u → NextSays g.unit (held_in_order g id m start) i left r
    next_line None step = sym (among xs (sym (map-id xs) ∙ (YieldsList-end road xs t y None u refl step).0)) ∙ so_far
    next_line (Some l) step = λ h.
        let turn = YieldsList-turn road xs t y (Some l) u l refl step in
        let rest : List Line = drop (suc (length xs)) all in
        let here : drop (length xs) all ≡ l ∷ rest = drop-cons all (length xs) l turn.0 ∙ ap (λ (x : Line). x ∷ rest) (sym turn.1) in
        let parts : xs ++ (l ∷ rest) ≡ all =
        ap₂ (λ (x z : List Line). x ++ z) (sym (map-id xs) ∙ YieldsList-so_far road xs t y) (sym here) ∙ take-append-drop (length xs) all in
        sym (among (xs ++ (l ∷ rest)) parts) ∙ ap (λ (x : List Pair). locate g.unit x i) (map-append piece_of xs (l ∷ rest))
        ∙ locate_append g.unit (map piece_of xs) (map piece_of (l ∷ rest)) i ∙ ap (go_on g.unit (map piece_of (l ∷ rest))) so_far
        ∙ rw (lt-ltb left (l.len * g.unit) h) refl

-- one line more
pub line_passed : (unit i : ℕ) (xs : List Line) (l : Line) {left len : ℕ} → locate unit (map piece_of xs) i ≡ past left → len ≡ l.len * unit → len ≤ left
    → locate unit (map piece_of (xs ++ l ∷ [])) i ≡ past (left - len)
line_passed unit i xs l {left} so_far e h =
    ap (λ (x : List Pair). locate unit x i) (map-append piece_of xs (l ∷ []))
    ∙ locate_append unit (map piece_of xs) (piece_of l ∷ []) i ∙ ap (go_on unit (piece_of l ∷ [])) so_far
    ∙ rw (le-ltb left (l.len * unit) (omega arith)) (ap (λ (n : ℕ). past (left - n)) (sym e))

-- all the pairs' bits together
pub total_append : (ps qs : List Pair) → total_length (ps ++ qs) ≡ total_length ps + total_length qs
total_append [] qs = omega arith
total_append (p ∷ ps) qs = omega (arith, total_append ps qs)

pub total_apart : (from end : ℕ) (qs : List Pair) → Apart from end qs → from + total_length qs ≤ end
total_apart from end [] k = omega arith
total_apart from end (q ∷ qs) k = omega (arith, k.0, total_apart (q.start + q.len) end qs k.2)

pub locate_past : (unit : ℕ) (qs : List Pair) (i : ℕ) → total_length qs * unit ≤ i → locate unit qs i ≡ past (i - total_length qs * unit)
locate_past unit [] i h = rw (zero-mul, sub-zero)
locate_past unit (q ∷ qs) i h =
    rw (le-ltb i (q.len * unit) (omega arith)) (locate_past unit qs (i - q.len * unit) (omega arith) ∙ ap past (omega arith))
