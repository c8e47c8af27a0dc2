-- The pairs of a list by number, and the last of the first pairs or pieces.
use mathlib.Core.Path.{◌≡◌, refl, sym, ap, ◌∙◌}
use mathlib.Core.List.{List, [], ◌∷◌, ◌++◌, map}
use Prim.Native.Nat.{ℕ, zero, suc, ◌+◌, ◌-◌, ◌*◌, ◌/◌, ◌<◌, ◌≤◌}
use native.Mathlib.Omega.{arith}
use lib.ListN.{length, get_or, set, take, drop, length-map}
use Rattle.std.proofs.lemmas.List.{take_more, map_more, get_or-map, drop-set}
use Rattle.model.specs.Chain.{Pair, pair}
use Rattle.model.specs.Pieces.{Piece}
use Rattle.edits.specs.Edits.{own}
use Rattle.edits.specs.Judge.{pairs_from}
use Rattle.writer.proofs.PairLists.{length_pairs}
use Rattle.writer.specs.declared.Piece as code
use Rattle.writer.specs.declared.Pair as listed
use Rattle.writer.specs.Parts.{pair_in}
use Rattle.writer.specs.Listed.{piece, as_piece, as_pieces}

pair_at : (list : List ℕ) (k : ℕ) (d : Pair) → k < length list / 2 → get_or (pairs_from list) k d ≡ pair (get_or list (2 * k) 0) (get_or list (2 * k + 1) 0)
pair_at [] k d h = absurd (omega arith)
pair_at (a ∷ []) k d h = absurd (omega arith)
pair_at (a ∷ b ∷ l) zero d h = refl
pair_at (a ∷ b ∷ l) (suc k) d h =
    let s : List ℕ = a ∷ b ∷ l in
    let e0 : suc (suc (2 * k)) ≡ 2 * suc k = omega arith in
    let e1 : suc (suc (2 * k + 1)) ≡ 2 * suc k + 1 = omega arith in
    pair_at l k d (omega arith) ∙ (λ x. pair (get_or s (e0 x) 0) (get_or s (e1 x) 0))

-- the first pairs as pieces of `id`, and the last of them as the code reads it
pub last_pair : (id : ℕ) (list : List ℕ) (j : ℕ) → 0 < j → j ≤ length list / 2 → {q : listed.Pair} → q ≡ pair_in list (2 * (j - 1))
    → take j (map (own id) (pairs_from list)) ≡ take (j - 1) (map (own id) (pairs_from list)) ++ (piece q.start.0 q.len id ∷ [])
last_pair id list j pos h {q} e =
    let come = map (own id) (pairs_from list) in
    let n : j ≡ j - 1 + 1 = omega arith in
    let few : j - 1 < length (pairs_from list) = omega (arith, length_pairs list) in
    let x : get_or come (j - 1) (piece 0 0 0) ≡ piece q.start.0 q.len id =
    get_or-map (own id) (pairs_from list) (j - 1) (pair 0 0) (piece 0 0 0) few ∙ ap (own id) (pair_at list (j - 1) (pair 0 0) (omega arith)) ∙ sym (ap (λ (y : listed.Pair). piece y.start.0 y.len id) e) in
    ap (λ (k : ℕ). take k come) n ∙ take_more come (j - 1) (piece 0 0 0) (omega (arith, length-map (pairs_from list) (own id))) ∙ ap (λ (y : Piece). take (j - 1) come ++ (y ∷ [])) x

-- the first pieces, and the last of them
pub last_piece : (l : List code.Piece) (d : code.Piece) (i : ℕ) → 0 < i → i ≤ length l → as_pieces (take i l) ≡ as_pieces (take (i - 1) l) ++ (as_piece (get_or l (i - 1) d) ∷ [])
last_piece l d i pos h =
    let n : i ≡ i - 1 + 1 = omega arith in
    ap (λ (k : ℕ). as_pieces (take k l)) n ∙ map_more as_piece l (i - 1) d (omega arith)

-- the pieces from one on that is stored
pub from_stored : (l : List code.Piece) (x : code.Piece) (to k n : ℕ) → to < length l → k ≡ to → n ≡ to + 1 → as_pieces (drop k (set l to x)) ≡ as_piece x ∷ as_pieces (drop n l)
from_stored l x to k n h ek en =
    ap (λ (y : ℕ). as_pieces (drop y (set l to x))) ek ∙ ap as_pieces (drop-set l to x h) ∙ ap (λ (y : ℕ). as_piece x ∷ as_pieces (drop y l)) (sym en)
