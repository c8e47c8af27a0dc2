-- What the tests that a zone passed say of its owned pieces, whether or not free fragments touch: the owner rules by disc bits, the
-- lengths, whole clusters, and that the pieces lie apart.
use mathlib.Core.Path.{◌≡◌, refl}
use mathlib.Core.Bool.{true, ◌&&◌, ◌||◌, false≢true}
use mathlib.Core.List.{List, [], ◌∷◌, map}
use mathlib.Core.Logic.{◌⊎◌, inl, inr}
use mathlib.Core.Option.{some}
use Prim.Native.Nat.{ℕ, ◌+◌, ◌*◌, ◌%◌, ◌≤◌}
use native.Mathlib.Omega.{arith}
use lib.Dec.{eqb, leb}
use borrow.Author.Tests.{eqb-true, eq-eqb, leb-true, le-leb}
use Rattle.bits.proofs.Tests.{both, and_true, either, or_left, or_right}
use Rattle.geometry.specs.declared.Geometry.{Geometry}
use Rattle.geometry.specs.Accepted.{AcceptedGeometry}
use Rattle.geometry.specs.Places.{disc_bit, id_from}
use Rattle.model.specs.Fragments.{Fragment, Formed}
use Rattle.model.specs.Chain.{Entry, pair, follow}
use Rattle.model.specs.Pieces.{Piece, owned_of, piece_to_disc}
use Rattle.model.specs.Check.{every, in_clusters, id_fits, end_fits, first_owned}
use Rattle.model.proofs.Followed.{total, by_following}
use Rattle.model.proofs.ChainDrawn.{Lies}
use Rattle.edits.specs.Holes.{gap_fits, apart}
use Rattle.edits.proofs.Kept.{All}
use Rattle.edits.proofs.Gaps.{Gap, gap_of_test, test_of_gap, is_long}
use Rattle.edits.proofs.Returned.{is_whole}
use Rattle.edits.proofs.Clusters.{add_whole, is_whole_law, shortest_least}
use Rattle.edits.proofs.ObjectRules.{gap_ends_by, one_from_end, two_first, ends_join}

-- lengths: every fragment has at least m bits
abbrev pub EachLong : ℕ → List Fragment → Type 0
EachLong m [] = Unit {0}
EachLong m (f ∷ fs) = (m ≤ f.len) × EachLong m fs

pub long_of : (g : Geometry) (ok : AcceptedGeometry g) (fs : List Fragment) → Formed g.idlen fs → in_clusters g.cluster fs ≡ true → EachLong g.shortest fs
long_of g ok [] f t = tt
long_of g ok (x ∷ xs) f t =
    let b = both (eqb (x.len % g.cluster) 0) (in_clusters g.cluster xs) t in
    (shortest_least g ok x.len f.1 (eqb-true (x.len % g.cluster) 0 b.0), long_of g ok xs f.2 b.1)

-- what lies apart from a bit on lies apart from m bits before it on
longer : (m a at b : ℕ) → a + m ≤ at → Gap m at b → Gap m a b
longer m a at b h (inl e) = inr (omega arith)
longer m a at b h (inr e) = inr (omega arith)

apart_from : (m a at end : ℕ) (ps : List Piece) → a + m ≤ at → apart m at end ps ≡ true → apart m a end ps ≡ true
apart_from m a at end [] h t = test_of_gap m a end (longer m a at end h (gap_of_test m at end t))
apart_from m a at end (p ∷ ps) h t =
    let b = both (gap_fits m at p.at.start) (apart m (p.at.start + p.at.len) end ps) t in
    and_true (gap_fits m a p.at.start) _ (test_of_gap m a p.at.start (longer m a at p.at.start h (gap_of_test m at p.at.start b.0))) b.1

-- what ends by bit d, but for object 1, from a bit by d on, does so from any bit before it on
one_from : (d a at end : ℕ) (ps : List Piece) → at ≤ d → one_from_end d at end ps ≡ true → one_from_end d a end ps ≡ true
one_from d a at end [] h t = ends_join d a at end (inr h) t
one_from d a at end (p ∷ ps) h t =
    let b = both (gap_ends_by d at p.at.start && (eqb p.owner 1 || leb (p.at.start + p.at.len) d)) (one_from_end d (p.at.start + p.at.len) end ps) t in
    let e = both (gap_ends_by d at p.at.start) (eqb p.owner 1 || leb (p.at.start + p.at.len) d) b.0 in
    and_true (gap_ends_by d a p.at.start && (eqb p.owner 1 || leb (p.at.start + p.at.len) d)) _
    (and_true (gap_ends_by d a p.at.start) _ (ends_join d a at p.at.start (inr h) e.0) e.1) b.1

module _ (at next : ℕ) (fs : List Fragment) (es : List Entry) (followed : follow at next fs ≡ some es) where
  pub long_pieces : (m : ℕ) → EachLong m fs → All (is_long m) (owned_of es)
  long_pieces m =
      by_following (λ at fs es. EachLong m fs → All (is_long m) (owned_of es))
      (λ at l. tt)
      (λ at f fs es k l. k l.1)
      (λ at f fs es k l. (le-leb m f.len l.0, k l.1))
      at next fs es followed

  pub whole_pieces : (k : ℕ) → at % k ≡ 0 → in_clusters k fs ≡ true → All (is_whole k) (owned_of es)
  whole_pieces k =
      by_following (λ at fs es. at % k ≡ 0 → in_clusters k fs ≡ true → All (is_whole k) (owned_of es))
      (λ at h t. tt)
      (λ at f fs es r h t. let b = both (eqb (f.len % k) 0) (in_clusters k fs) t in r (add_whole k at f.len h (eqb-true (f.len % k) 0 b.0)) b.1)
      (λ at f fs es r h t. let b = both (eqb (f.len % k) 0) (in_clusters k fs) t in
      let l = eqb-true (f.len % k) 0 b.0 in
      (is_whole_law k (record { at = pair at f.len; owner = f.id }) h l, r (add_whole k at f.len h l) b.1))
      at next fs es followed

  pub apart_pieces : (m end : ℕ) → at + total fs ≡ end → EachLong m fs → apart m at end (owned_of es) ≡ true
  apart_pieces m end =
      by_following (λ at fs es. at + total fs ≡ end → EachLong m fs → apart m at end (owned_of es) ≡ true)
      (λ at e l. test_of_gap m at end (inl (omega arith)))
      (λ at f fs es k e l. apart_from m at (at + f.len) end (owned_of es) (omega (arith, l.0)) (k (omega arith) l.1))
      (λ at f fs es k e l. and_true (gap_fits m at at) _ (test_of_gap m at at (inl refl)) (k (omega arith) l.1))
      at next fs es followed

  -- the id rule
  pub ids_of : (g : Geometry) → every (id_fits g) es ≡ true → All (λ p. id_from 1 g p.owner) (owned_of es)
  ids_of g =
      by_following (λ at fs es. every (id_fits g) es ≡ true → All (λ p. id_from 1 g p.owner) (owned_of es))
      (λ at h. tt)
      (λ at f fs es k h. k h)
      (λ at f fs es k h. let b = both (id_from 1 g f.id) (every (id_fits g) es) h in (b.0, k b.1))
      at next fs es followed

  -- the disc-end rule, from block bit `at` to `end`, which are disc bits a2 to e2
  pub one_of_ends : (g : Geometry) (z end a2 e2 : ℕ) → 512 ≤ z * g.bits + at → a2 + 512 ≡ z * g.bits + at → e2 + 512 ≡ z * g.bits + end → at + total fs ≡ end
      → every (end_fits g z) es ≡ true → one_from_end g.end.0 a2 e2 (map (piece_to_disc g z) (owned_of es)) ≡ true
  one_of_ends g z end a2 e2 lo p q =
      by_following (λ at fs es. (a2 : ℕ) → 512 ≤ z * g.bits + at → a2 + 512 ≡ z * g.bits + at → at + total fs ≡ end
      → every (end_fits g z) es ≡ true → one_from_end g.end.0 a2 e2 (map (piece_to_disc g z) (owned_of es)) ≡ true)
      (λ at a2 lo p e h. or_left (eqb a2 e2) (leb e2 g.end.0) (eq-eqb a2 e2 (omega arith)))
      (λ at f fs es k a2 lo p e h. let b = both (leb (disc_bit g z (at + f.len)) g.end.0) (every (end_fits g z) es) h in
      one_from g.end.0 a2 (a2 + f.len) e2 (map (piece_to_disc g z) (owned_of es)) (omega (arith, leb-true (disc_bit g z (at + f.len)) g.end.0 b.0))
      (k (a2 + f.len) (omega arith) (omega arith) (omega arith) b.1))
      (λ at f fs es k a2 lo p e h. let s = disc_bit g z at in
      let b = both (eqb f.id 1 || leb (disc_bit g z (at + f.len)) g.end.0) (every (end_fits g z) es) h in
      and_true (gap_ends_by g.end.0 a2 s && (eqb f.id 1 || leb (s + f.len) g.end.0)) _
      (and_true (gap_ends_by g.end.0 a2 s) _ (or_left (eqb a2 s) _ (eq-eqb a2 s (omega arith))) (mine g z f.id at f.len lo (either (eqb f.id 1) _ b.0)))
      (k (s + f.len) (omega arith) (omega arith) (omega arith) b.1))
      at next fs es followed a2 lo p
    where
      mine : (g : Geometry) (z id at len : ℕ) → 512 ≤ z * g.bits + at → (eqb id 1 ≡ true) ⊎ (leb (disc_bit g z (at + len)) g.end.0 ≡ true) → eqb id 1 || leb (disc_bit g z at + len) g.end.0 ≡ true
      mine g z id at len lo (inl k) = or_left (eqb id 1) _ k
      mine g z id at len lo (inr k) = or_right (eqb id 1) _ (le-leb (disc_bit g z at + len) g.end.0 (omega (arith, leb-true (disc_bit g z (at + len)) g.end.0 k)))

  -- the object 2 rule
  pub two_of_first : (g : Geometry) (z a2 : ℕ) → 512 ≤ z * g.bits + at → a2 + 512 ≡ z * g.bits + at → first_owned 2 es ≡ true → two_first a2 (map (piece_to_disc g z) (owned_of es)) ≡ true
  two_of_first g z a2 =
      by_following (λ at fs es. 512 ≤ z * g.bits + at → a2 + 512 ≡ z * g.bits + at → first_owned 2 es ≡ true → two_first a2 (map (piece_to_disc g z) (owned_of es)) ≡ true)
      (λ at lo p h. absurd (false≢true h))
      (λ at f fs es k lo p h. absurd (false≢true h))
      (λ at f fs es k lo p h. and_true (eqb (disc_bit g z at) a2) (eqb f.id 2) (eq-eqb (disc_bit g z at) a2 (omega arith)) h)
      at next fs es followed

gap_by_disc : (m a b a2 b2 d : ℕ) → a2 + 512 ≡ d + a → b2 + 512 ≡ d + b → Gap m a b → Gap m a2 b2
gap_by_disc m a b a2 b2 d p q (inl e) = inl (omega arith)
gap_by_disc m a b a2 b2 d p q (inr e) = inr (omega arith)

-- apart by block bits is apart by disc bits
pub apart_disc : (g : Geometry) (z m a e a2 e2 : ℕ) (l : List Piece) → 512 ≤ z * g.bits + a → a2 + 512 ≡ z * g.bits + a → e2 + 512 ≡ z * g.bits + e
    → Lies a e l → apart m a e l ≡ true → apart m a2 e2 (map (piece_to_disc g z) l) ≡ true
apart_disc g z m a e a2 e2 [] h p q y t = test_of_gap m a2 e2 (gap_by_disc m a e a2 e2 (z * g.bits) p q (gap_of_test m a e t))
apart_disc g z m a e a2 e2 (x ∷ xs) h p q y t =
    let b = both (gap_fits m a x.at.start) (apart m (x.at.start + x.at.len) e xs) t in
    let s = disc_bit g z x.at.start in
    and_true (gap_fits m a2 s) (apart m (s + x.at.len) e2 (map (piece_to_disc g z) xs))
    (test_of_gap m a2 s (gap_by_disc m a x.at.start a2 s (z * g.bits) p (omega arith) (gap_of_test m a x.at.start b.0)))
    (apart_disc g z m (x.at.start + x.at.len) e (s + x.at.len) e2 xs (omega arith) (omega arith) q y.2 b.1)
