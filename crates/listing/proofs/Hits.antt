-- How many pairs of a list a bit lies in. A bit that lies in some pair has a place in the list, and one that lies in at most one
-- has no two; entries that fill a stretch hold each of its bits once, and the counts of their parts add up.
use mathlib.Core.Path.{◌≡◌, refl, sym, ap, ◌∙◌}
use mathlib.Core.Bool.{Bool, true, cond, not, ◌&&◌}
use mathlib.Core.List.{List, [], ◌∷◌, ◌++◌, map}
use Prim.Native.Nat.{ℕ, suc, ◌+◌, ◌<◌, ◌≤◌}
use native.Mathlib.Omega.{arith}
use lib.Dec.{eqb, leb, ltb}
use borrow.Author.Tests.{le-leb, lt-leb, lt-ltb, le-ltb, leb-true, ltb-true, ltb-false, eq-eqb, ne_eqb, eqb-true}
use Rattle.bits.proofs.Tests.{by_test, both, and_true}
use Rattle.model.specs.Chain.{Pair, Holder, free, owned, Entry, Within}
use Rattle.model.specs.Pieces.{Piece, keep, owned_if, owned_of, is_of, pieces_of, rotate, free_if, free_of}
use Rattle.listing.specs.Laws.{At, first, later}
use Rattle.listing.proofs.Filled.{Fills}
use Rattle.listing.proofs.ObjectOrder.{places, places_append}

-- where entries lie
abbrev pub spots : List Entry → List Pair
spots es = map (λ e. e.at) es

module _ (d : ℕ) where
  abbrev pub hit : Pair → ℕ
  hit q = cond (leb q.start d && ltb d (q.start + q.len)) 1 0

  abbrev pub hits : List Pair → ℕ
  hits [] = 0
  hits (q ∷ qs) = hit q + hits qs

  hit_within : (q : Pair) → Within q d → hit q ≡ 1
  hit_within q w = rw (and_true (leb q.start d) (ltb d (q.start + q.len)) (le-leb q.start d w.0) (lt-ltb d (q.start + q.len) w.1))

  within_hit : (q : Pair) → (leb q.start d && ltb d (q.start + q.len)) ≡ true → Within q d
  within_hit q t = let b = both (leb q.start d) (ltb d (q.start + q.len)) t in (leb-true q.start d b.0, ltb-true d (q.start + q.len) b.1)

  hit_before : (q : Pair) → d < q.start → hit q ≡ 0
  hit_before q h = rw (lt-leb q.start d h)

  hit_after : (q : Pair) → q.start + q.len ≤ d → hit q ≡ 0
  hit_after q h = rw (le-leb q.start d (omega arith), le-ltb d (q.start + q.len) h)

  hit_most : (q : Pair) → hit q ≤ 1
  hit_most q = by_test (leb q.start d && ltb d (q.start + q.len)) (λ t. rw t (omega arith)) (λ t. rw t (omega arith))

  pub hits_append : (ps qs : List Pair) → hits (ps ++ qs) ≡ hits ps + hits qs
  hits_append [] qs = omega arith
  hits_append (p ∷ ps) qs = omega (arith, hits_append ps qs)

  -- a bit that lies in some pair has a place
  pub hit_somewhere : (qs : List Pair) → 0 < hits qs → (i : ℕ) × (q : Pair) × At q i qs × Within q d
  hit_somewhere [] h = absurd (omega arith)
  hit_somewhere (q ∷ qs) h =
      by_test (leb q.start d && ltb d (q.start + q.len))
      (λ t. (0, q, first, within_hit q t))
      (λ t. let k : hit q ≡ 0 = rw t in let r = hit_somewhere qs (omega arith) in (suc r.0, r.1, later r.2, r.3))

  pub hit_at : (q : Pair) (i : ℕ) (qs : List Pair) → At q i qs → Within q d → 0 < hits qs
  hit_at q i qs first w = omega (arith, hit_within q w)
  hit_at q i qs (later a) w = omega (arith, hit_at q _ _ a w)

  -- one that lies in at most one has no two
  pub hit_once : {p q : Pair} {i j : ℕ} {qs : List Pair} → hits qs ≤ 1 → At p i qs → At q j qs → Within p d → Within q d → i ≡ j
  hit_once h first first v w = refl
  hit_once h first (later b) v w = absurd (omega (arith, hit_within _ v, hit_at _ _ _ b w))
  hit_once h (later a) first v w = absurd (omega (arith, hit_within _ w, hit_at _ _ _ a v))
  hit_once h (later a) (later b) v w = ap suc (hit_once (omega arith) a b v w)

  -- entries that fill a stretch
  fills_none : (at end : ℕ) (es : List Entry) → Fills at end es → d < at → hits (spots es) ≡ 0
  fills_none at end [] f h = refl
  fills_none at end (e ∷ es) f h = omega (arith, hit_before e.at (omega (arith, f.0)), fills_none (at + e.at.len) end es f.2 (omega arith))

  pub fills_most : (at end : ℕ) (es : List Entry) → Fills at end es → hits (spots es) ≤ 1
  fills_most at end [] f = omega arith
  fills_most at end (e ∷ es) f =
      by_test (ltb d (at + e.at.len))
      (λ t. omega (arith, hit_most e.at, fills_none (at + e.at.len) end es f.2 (ltb-true d (at + e.at.len) t)))
      (λ t. omega (arith, hit_after e.at (omega (arith, f.0, ltb-false d (at + e.at.len) t)), fills_most (at + e.at.len) end es f.2))

  pub fills_some : (at end : ℕ) (es : List Entry) → Fills at end es → at ≤ d → d < end → 0 < hits (spots es)
  fills_some at end [] f l h = absurd (omega arith)
  fills_some at end (e ∷ es) f l h =
      by_test (ltb d (at + e.at.len))
      (λ t. omega (arith, hit_within e.at (omega (arith, f.0), omega (arith, f.0, ltb-true d (at + e.at.len) t))))
      (λ t. omega (arith, fills_some (at + e.at.len) end es f.2 (ltb-false d (at + e.at.len) t) h))

  -- the free and the owned
  pub hits_parts : (es : List Entry) → hits (free_of es) + hits (places (owned_of es)) ≡ hits (spots es)
  hits_parts [] = refl
  hits_parts (e ∷ es) = go e.holder (hits_parts es)
    where
      go : (h : Holder) → hits (free_of es) + hits (places (owned_of es)) ≡ hits (spots es)
          → hits (free_if h e.at (free_of es)) + hits (places (owned_if h e.at (owned_of es))) ≡ hit e.at + hits (spots es)
      go free ih = omega arith
      go (owned id) ih = omega arith

  -- those that pass a test, and the others
  hits_kept : (t : Piece → Bool) (ps : List Piece) → hits (places (keep t ps)) + hits (places (keep (λ x. not (t x)) ps)) ≡ hits (places ps)
  hits_kept t [] = refl
  hits_kept t (p ∷ ps) = by_test (t p) (λ u. simp u (omega (arith, hits_kept t ps))) (λ u. simp u (omega (arith, hits_kept t ps)))

  pub hits_rotated : (t : Piece → Bool) (ps : List Piece) → hits (places (rotate t ps)) ≡ hits (places ps)
  hits_rotated t ps =
      ap hits (places_append (keep t ps) (keep (λ x. not (t x)) ps)) ∙ hits_append (places (keep t ps)) (places (keep (λ x. not (t x)) ps)) ∙ hits_kept t ps

  -- the pieces of one object, and of two
  pub hits_of_one : (id : ℕ) (ps : List Piece) → hits (places (pieces_of id ps)) ≤ hits (places ps)
  hits_of_one id ps = omega (arith, hits_kept (is_of id) ps)

  pub hits_of_two : (i j : ℕ) → (i ≡ j → ⊥) → (ps : List Piece) → hits (places (pieces_of i ps)) + hits (places (pieces_of j ps)) ≤ hits (places ps)
  hits_of_two i j n [] = omega arith
  hits_of_two i j n (p ∷ ps) =
      by_test (eqb p.owner i)
      (λ u. simp (u, ne_eqb p.owner j (λ k. n (sym (eqb-true p.owner i u) ∙ k))) (omega (arith, hits_of_two i j n ps)))
      (λ u. by_test (eqb p.owner j)
      (λ v. simp (u, v) (omega (arith, hits_of_two i j n ps)))
      (λ v. simp (u, v) (omega (arith, hits_of_two i j n ps))))

  -- a piece that a bit lies in has an owner
  pub hit_owner : (ps : List Piece) → 0 < hits (places ps) → (id : ℕ) × (0 < hits (places (pieces_of id ps)))
  hit_owner [] h = absurd (omega arith)
  hit_owner (p ∷ ps) h =
      by_test (leb p.at.start d && ltb d (p.at.start + p.at.len))
      (λ t. let k : hit p.at ≡ 1 = rw t in (p.owner, rw (eq-eqb p.owner p.owner refl) (omega arith)))
      (λ t. let k : hit p.at ≡ 0 = rw t in
      let r = hit_owner ps (omega arith) in
      (r.0, by_test (eqb p.owner r.0) (λ u. rw u (omega (arith, r.1))) (λ u. rw u r.1)))
