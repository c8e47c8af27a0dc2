-- Pairs merged into pieces from the end: what starts last of both goes last, and what is left is merged as before.
use mathlib.Core.Path.{◌≡◌, refl, sym, ap, ap₂, ◌∙◌, subst, subst⁻¹}
use mathlib.Core.List.{List, [], ◌∷◌, ◌++◌, map, append_assoc, append-nil, map-append}
use Prim.Native.Nat.{ℕ, suc, ◌+◌, ◌-◌, ◌*◌, ◌/◌, ◌<◌, ◌≤◌}
use native.Mathlib.Omega.{arith}
use lib.Dec.{ltb}
use lib.ListN.{length, get_or, set, take, drop, take-append-drop, length-map}
use lib.Seq.{take-set-le}
use borrow.Author.Tests.{lt-ltb, le-ltb, ltb-true, ltb-false}
use Rattle.std.proofs.lemmas.List.{take_all, drop_all}
use Rattle.bits.proofs.Tests.{by_test}
use Rattle.model.specs.Pieces.{Piece}
use Rattle.edits.specs.Order.{Ascending}
use Rattle.edits.specs.Edits.{insert, put, own}
use Rattle.edits.specs.Judge.{pairs_from}
use Rattle.writer.specs.declared.Piece as code
use Rattle.writer.specs.declared.Pair as listed
use Rattle.writer.specs.Parts.{pair_in}
use Rattle.writer.specs.Listed.{piece, as_piece, as_pieces, Merged}
use Rattle.writer.proofs.PairLists.{length_pairs}
use Rattle.writer.proofs.PieceLists.{last_pair, last_piece, from_stored}

-- all start before, or not after, a place
abbrev Below : ℕ → List Piece → Type 0
Below b [] = Unit {0}
Below b (x ∷ xs) = (x.at.start < b) × Below b xs

abbrev NotAfter : ℕ → List Piece → Type 0
NotAfter b [] = Unit {0}
NotAfter b (x ∷ xs) = (x.at.start ≤ b) × NotAfter b xs

below_more : (b : ℕ) (xs : List Piece) (q : Piece) → Below q.at.start xs → q.at.start < b → Below b (xs ++ (q ∷ []))
below_more b [] q l h = (h, tt)
below_more b (x ∷ xs) q l h = (omega arith, below_more b xs q l.1 h)

not_after_more : (b : ℕ) (xs : List Piece) (p : Piece) → Below p.at.start xs → p.at.start ≤ b → NotAfter b (xs ++ (p ∷ []))
not_after_more b [] p l h = (h, tt)
not_after_more b (x ∷ xs) p l h = (omega arith, not_after_more b xs p l.1 h)

-- the last of pieces that ascend
asc_front : (f : ℕ) (xs : List Piece) (q : Piece) → Ascending f (xs ++ (q ∷ [])) → Ascending f xs × Below q.at.start xs × (f ≤ q.at.start)
asc_front f [] q a = (tt, tt, a.0)
asc_front f (x ∷ xs) q a = let r = asc_front (suc x.at.start) xs q a.1 in ((a.0, r.0), (omega (arith, r.2), r.1), omega (arith, r.2))

-- pieces put in before the last, and after all
insert_front : (x : Piece) (m : List Piece) (q : Piece) → x.at.start < q.at.start → insert x (m ++ (q ∷ [])) ≡ insert x m ++ (q ∷ [])
insert_front x [] q h = simp (lt-ltb x.at.start q.at.start h)
insert_front x (y ∷ m) q h = by_test (ltb x.at.start y.at.start) (λ t. simp t) (λ t. simp (t, insert_front x m q h))

put_front : (xs m : List Piece) (q : Piece) → Below q.at.start xs → put xs (m ++ (q ∷ [])) ≡ put xs m ++ (q ∷ [])
put_front [] m q b = refl
put_front (x ∷ xs) m q b = ap (insert x) (put_front xs m q b.1) ∙ insert_front x (put xs m) q b.0

insert_end : (q : Piece) (m : List Piece) → NotAfter q.at.start m → insert q m ≡ m ++ (q ∷ [])
insert_end q [] b = refl
insert_end q (y ∷ m) b = simp (le-ltb q.at.start y.at.start b.0, insert_end q m b.1)

put_end : (xs : List Piece) (q : Piece) (m : List Piece) → put (xs ++ (q ∷ [])) m ≡ put xs (insert q m)
put_end [] q m = refl
put_end (x ∷ xs) q m = ap (insert x) (put_end xs q m)

-- what a place past the end has
abbrev pub none : code.Piece
none = record { owner = 0; start = record { 0 = 0 }; len = 0 }

-- The first j of the pairs that come and the first i pieces are left to be merged, and what was merged stands from piece i + j on; together
-- they are `all`.
pub record Merging (come : List Piece) (pieces : List code.Piece) (i j : ℕ) (all : List Piece) : Type 0 where
  pub pairs_ascend : Ascending 0 (take j come)
  pub pieces_ascend : Ascending 0 (as_pieces (take i pieces))
  pub whole : all ≡ put (take j come) (as_pieces (take i pieces)) ++ as_pieces (drop (i + j) pieces)

-- the same of the pairs of a list and the pieces that were there, where both ascend
abbrev pub MergedSo : ℕ → List ℕ → List code.Piece → List code.Piece → ℕ → ℕ → Type 0
MergedSo id list old pieces i j =
    let come = map (own id) (pairs_from list) in
    let there = as_pieces (take (length old - length list / 2) old) in
    Ascending 0 come → Ascending 0 there → Merging come pieces i j (put come there)

module _ (id : ℕ) (list : List ℕ) (old : List code.Piece) where
  abbrev come : List Piece
  come = map (own id) (pairs_from list)

  abbrev there : List Piece
  there = as_pieces (take (length old - length list / 2) old)

  pub merge_starts : length list / 2 ≤ length old → MergedSo id list old old (length old - length list / 2) (length list / 2)
  merge_starts h = λ a b.
      let k = length list / 2 in
      let i = length old - k in
      let all : take k come ≡ come = take_all k come (omega (arith, length-map (pairs_from list) (own id), length_pairs list)) in
      let none : drop (i + k) old ≡ [] = drop_all (i + k) old (omega arith) in
      record {
        pairs_ascend = subst⁻¹ (Ascending 0) all a;
        pieces_ascend = b;
        whole = sym ((λ x. put (all x) there ++ as_pieces (none x)) ∙ append-nil (put come there));
      }

  -- the pairs are used up
  pub merge_ends : (pieces : List code.Piece) (i j : ℕ) → MergedSo id list old pieces i j → j ≤ 0 → Merged id list old pieces
  merge_ends pieces i j m h = λ a b.
      let e : j ≡ 0 = omega arith in
      let f : i + j ≡ i = omega arith in
      sym
      ((m a b).whole
      ∙ (λ x. put (take (e x) come) (as_pieces (take i pieces)) ++ as_pieces (drop (f x) pieces))
      ∙ sym (map-append as_piece (take i pieces) (drop i pieces))
      ∙ ap as_pieces (take-append-drop i pieces))

  module _ (pieces : List code.Piece) (i j : ℕ) (m : MergedSo id list old pieces i j) (pos : 0 < j) (few : j ≤ length list / 2) (room : i + j ≤ length pieces)
      {pq : listed.Pair} (eq : pq ≡ pair_in list (2 * (j - 1))) where
    abbrev q : Piece
    q = piece pq.start.0 pq.len id

    abbrev xs : List Piece
    xs = take (j - 1) come

    pairs_are : take j come ≡ xs ++ (q ∷ [])
    pairs_are = last_pair id list j pos few eq

    abbrev there_now : List Piece
    there_now = as_pieces (take i pieces)

    abbrev done : List Piece
    done = as_pieces (drop (i + j) pieces)

    abbrev to : ℕ
    to = i + j - 1

    -- the last piece starts after the last pair
    module _ (d : code.Piece) (some : 0 < i) (t : pq.start.0 < (get_or pieces (i - 1) d).start.0) where
      abbrev x : code.Piece
      x = get_or pieces (i - 1) d

      abbrev ys : List Piece
      ys = as_pieces (take (i - 1) pieces)

      pieces_are : there_now ≡ ys ++ (as_piece x ∷ [])
      pieces_are = last_piece pieces d i some (omega arith)

      abbrev next : List code.Piece
      next = set pieces to x

      pub merge_piece : MergedSo id list old (set pieces (i + j - 1) (get_or pieces (i - 1) d)) (i - 1) j
      merge_piece = λ a b.
          let w = m a b in
          let pairs_tell = asc_front 0 xs q (subst (Ascending 0) pairs_are w.pairs_ascend) in
          let pieces_tell = asc_front 0 ys (as_piece x) (subst (Ascending 0) pieces_are w.pieces_ascend) in
          let split : put (take j come) there_now ≡ put (take j come) ys ++ (as_piece x ∷ []) =
          ap (put (take j come)) pieces_are ∙ put_front (take j come) ys (as_piece x) (subst⁻¹ (Below x.start.0) pairs_are (below_more x.start.0 xs q pairs_tell.1 t)) in
          let same : as_pieces (take (i - 1) next) ≡ ys = ap as_pieces (take-set-le (i - 1) pieces to x (omega arith)) in
          let rest : as_pieces (drop (i - 1 + j) next) ≡ as_piece x ∷ done = from_stored pieces x to (i - 1 + j) (i + j) (omega arith) (omega arith) (omega arith) in
          record {
            pairs_ascend = w.pairs_ascend;
            pieces_ascend = subst⁻¹ (Ascending 0) same pieces_tell.0;
            whole = w.whole ∙ ap (λ (r : List Piece). r ++ done) split ∙ append_assoc (put (take j come) ys) (as_piece x ∷ []) done
                ∙ sym (ap₂ (λ (r : List Piece) (s : List Piece). put (take j come) r ++ s) same rest);
          }

    -- the last pair starts after the last piece, or there is no piece
    module _ (d : code.Piece) (t : 0 < i → (get_or pieces (i - 1) d).start.0 ≤ pq.start.0) where
      pieces_before : Ascending 0 there_now → NotAfter q.at.start there_now
      pieces_before a =
          by_test (ltb 0 i)
          (λ s. let some = ltb-true 0 i s in
          let ys = as_pieces (take (i - 1) pieces) in
          let p = as_piece (get_or pieces (i - 1) d) in
          let e : there_now ≡ ys ++ (p ∷ []) = last_piece pieces d i some (omega arith) in
          subst⁻¹ (NotAfter q.at.start) e (not_after_more q.at.start ys p (asc_front 0 ys p (subst (Ascending 0) e a)).1 (t some)))
          (λ s. let e : i ≡ 0 = omega (arith, ltb-false 0 i s) in subst⁻¹ (λ (k : ℕ). NotAfter q.at.start (as_pieces (take k pieces))) e tt)

      pub merge_pair : MergedSo id list old (set pieces (i + j - 1) (record { owner = id; start = pq.start; len = pq.len })) i (j - 1)
      merge_pair = λ a b.
          let w = m a b in
          let new : code.Piece = record { owner = id; start = pq.start; len = pq.len } in
          let pairs_tell = asc_front 0 xs q (subst (Ascending 0) pairs_are w.pairs_ascend) in
          let split : put (take j come) there_now ≡ put xs there_now ++ (q ∷ []) =
          ap (λ (l : List Piece). put l there_now) pairs_are ∙ put_end xs q there_now ∙ ap (put xs) (insert_end q there_now (pieces_before w.pieces_ascend)) ∙ put_front xs there_now q pairs_tell.1 in
          let same : as_pieces (take i (set pieces to new)) ≡ there_now = ap as_pieces (take-set-le i pieces to new (omega arith)) in
          let rest : as_pieces (drop (i + (j - 1)) (set pieces to new)) ≡ q ∷ done = from_stored pieces new to (i + (j - 1)) (i + j) (omega arith) (omega arith) (omega arith) in
          record {
            pairs_ascend = pairs_tell.0;
            pieces_ascend = subst⁻¹ (Ascending 0) same w.pieces_ascend;
            whole = w.whole ∙ ap (λ (r : List Piece). r ++ done) split ∙ append_assoc (put xs there_now) (q ∷ []) done
                ∙ sym (ap₂ (λ (r : List Piece) (s : List Piece). put xs r ++ s) same rest);
          }
