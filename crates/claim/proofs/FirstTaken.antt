-- The first hole that is taken stands first among those that a claim takes in turn. So what is taken goes by its length, and starts in its zone.
use mathlib.Core.Path.{◌≡◌, refl, sym, ap, ◌∙◌, subst}
use mathlib.Core.List.{List, [], ◌∷◌}
use mathlib.Core.Option.{Option, none, some}
use mathlib.Core.Logic.{inl}
use Prim.Native.Nat.{ℕ, suc, ◌<◌, ◌≤◌}
use native.Mathlib.Omega.{arith}
use lib.Dec.{leb}
use borrow.Author.Tests.{leb-true, leb-false, lt-leb}
use Rattle.bits.proofs.Tests.{by_test}
use Rattle.geometry.specs.declared.Geometry.{Geometry}
use Rattle.geometry.specs.Places.{zone_of}
use Rattle.model.specs.Chain.{Pair, pair}
use Rattle.model.specs.Pieces.{Piece}
use Rattle.model.specs.Shown.{pieces_on}
use Rattle.model.proofs.Options.{none_some, some_some}
use Rattle.split.specs.Taken.{total, leads, by_size, cut, take_from}
use Rattle.split.specs.Threshold.{at_least, first_longest}
use Rattle.split.specs.Laws.{Ascends}
use Rattle.split.proofs.Sorted.{total_sorted, none_beyond, largest}
use Rattle.split.proofs.Front.{too_few, front_taken, taken_front}
use Rattle.holes.specs.Passes.{holes_on}
use Rattle.holes.proofs.HoleBits.{longer_later}
use Rattle.edits.specs.Judge.{first_hole, holes_near, in_turn, taken_for, first_zone}
use Rattle.edits.specs.Room.{In}
use Rattle.edits.specs.EditableMap.{EditableMap}
use Rattle.edits.proofs.Invariant.{some_bits}
use Rattle.edits.proofs.EditableMap.{map_pieces}
use Rattle.edits.proofs.ClaimFits.{first_in, hole_zone}
use Rattle.edits.proofs.Chosen.{first_taken_law, in_turn_law}
use Rattle.claim.specs.Chosen.{largest_or, first_taken, taken_first, SeveralTaken}
use Rattle.claim.proofs.HolesFree.{all_free, free_ascend, free_long}

abbrev First : Pair → List Pair → Type 0
First h hs = (behind : List Pair) × (hs ≡ h ∷ behind)

-- of the holes by size the first is the first one of the longest, where all have some bits
longest_first : (hs : List Pair) → 0 < total hs → Ascends 0 hs → ((h : Pair) → In h hs → 0 < h.len) → First (first_longest (pair 0 0) hs) (by_size hs)
longest_first [] k a p = absurd (omega arith)
longest_first (h ∷ hs) k a p =
    let r = largest h hs a in
    (r.0, r.1 ∙ ap (λ (q : Pair). first_longest q hs ∷ r.0) (sym (longer_later (pair 0 0) h (p h (inl refl)))))

-- and none is longer
none_longer : (hs : List Pair) → at_least (suc (first_longest (pair 0 0) hs).len) hs ≡ 0
none_longer hs = simp (lt-leb (suc (first_longest (pair 0 0) hs).len) 0 (omega arith)) at (none_beyond hs (pair 0 0))

-- what is taken of holes of which h is the first: the first pair starts where h does; and if h is long enough, it is all
module _ (m n : ℕ) (h : Pair) {hs : List Pair} (f : First h hs) (some_bits : 0 < n) where
  one_taken : n ≤ h.len → take_from m n hs ≡ some (cut m n h ∷ [])
  one_taken k =
      taken_front m n hs (cut m n h ∷ [])
      (record { whole = []; hole = h; behind = f.0; last = cut m n h; holes_are = f.1; taken_are = refl; rest = n; remains = omega arith; some_remain = some_bits; enough = k; last_is = refl })

  starts_first : (g : Geometry) (qs : List Pair) → take_from m n hs ≡ some qs → first_zone g qs ≡ zone_of g h.start
  starts_first g qs e =
      let t = first_taken_law g (front_taken m n hs qs some_bits e) in
      let same : h ∷ f.0 ≡ t.0 ∷ t.1 = sym f.1 ∙ t.2 in
      let first : t.0 ≡ h = cc in
      t.3 ∙ ap (λ (q : Pair). zone_of g q.start) first

module _ {m : List ℕ} {g : Geometry} (ed : EditableMap m g) (need parent : ℕ) where
  abbrev l : List Piece
  l = pieces_on g m

  in_size : in_turn g (pieces_on g m) none ≡ by_size (holes_on g m)
  in_size = sym (ap by_size (all_free ed))

  -- none, where all together have too few bits
  pub none_taken : first_taken g m need parent ≡ none → taken_for g (pieces_on g m) need parent ≡ none
  none_taken e = go (first_hole need (holes_near g l parent)) e
    where
      go : (o : Option Pair) → largest_or need (holes_on g m) o ≡ none → take_from g.shortest need (in_turn g (pieces_on g m) o) ≡ none
      go (some h) k = absurd (none_some (sym k))
      go none k =
          by_test (leb need (total (holes_on g m)))
          (λ t. absurd (none_some (sym (simp t at k))))
          (λ t. ap (take_from g.shortest need) in_size
          ∙ too_few g.shortest need (by_size (holes_on g m)) (omega (arith, total_sorted leads (holes_on g m), leb-false need (total (holes_on g m)) t)))

  -- the hole that is found: one that is long enough, or the longest of several
  module _ (h : Pair) where
    data Found : Option Pair → Type 0 where
      nearest : need ≤ h.len → Found (some h)
      longest : need ≤ total (holes_on g m) → first_longest (pair 0 0) (holes_on g m) ≡ h → Found none

    found : first_taken g m need parent ≡ some h → Found (first_hole need (holes_near g (pieces_on g m) parent))
    found e = go (first_hole need (holes_near g l parent)) refl e
      where
        go : (o : Option Pair) → first_hole need (holes_near g (pieces_on g m) parent) ≡ o → largest_or need (holes_on g m) o ≡ some h → Found o
        go (some q) a k = subst (λ (y : Pair). Found (some y)) (sym (some_some k)) (nearest (first_in need (holes_near g l parent) h (a ∙ k)).1)
        go none a k =
            by_test (leb need (total (holes_on g m)))
            (λ t. longest (leb-true need (total (holes_on g m)) t) (some_some (simp t at k)))
            (λ t. absurd (none_some (simp t at k)))

  module _ (need_some : 0 < need) (h : Pair) (e : first_taken g m need parent ≡ some h) where
    stands_first : First h (in_turn g (pieces_on g m) (first_hole need (holes_near g (pieces_on g m) parent)))
    stands_first = go (first_hole need (holes_near g l parent)) (found h e)
      where
        go : (o : Option Pair) → Found h o → First h (in_turn g (pieces_on g m) o)
        go (some q) (nearest k) = ([], refl)
        go none (longest k x) =
            let r = longest_first (holes_on g m) (omega arith) (free_ascend ed) (λ q i. omega (arith, some_bits g ed.accepted.readable.numbers, free_long ed q i)) in
            (r.0, in_size ∙ r.1 ∙ ap (λ (q : Pair). q ∷ r.0) x)

    pub several : h.len < need → SeveralTaken (holes_on g m) need h.len
    several j = go (first_hole need (holes_near g l parent)) (found h e)
      where
        go : (o : Option Pair) → Found h o → SeveralTaken (holes_on g m) need h.len
        go (some q) (nearest k) = absurd (omega arith)
        go none (longest k x) = record {
          some_bits = need_some;
          enough = k;
          longest_is = subst (λ (q : Pair). at_least (suc q.len) (holes_on g m) ≡ 0) x (none_longer (holes_on g m));
        }

    pub taken_is : taken_for g (pieces_on g m) need parent ≡ taken_first g.shortest need h (holes_on g m)
    taken_is =
        by_test (leb need h.len)
        (λ t. rw t (one_taken g.shortest need h stands_first need_some (leb-true need h.len t)))
        (λ t. rw t (go (leb-false need h.len t) (first_hole need (holes_near g l parent)) (found h e)))
      where
        go : h.len < need → (o : Option Pair) → Found h o → take_from g.shortest need (in_turn g (pieces_on g m) o) ≡ take_from g.shortest need (by_size (holes_on g m))
        go j (some q) (nearest k) = absurd (omega arith)
        go j none (longest k x) = ap (take_from g.shortest need) in_size

    pub first_zone_law : (qs : List Pair) → taken_for g (pieces_on g m) need parent ≡ some qs → first_zone g qs ≡ zone_of g h.start
    first_zone_law qs k = starts_first g.shortest need h stands_first need_some g qs k

    pub zone_inside : parent < g.zones → zone_of g h.start < g.zones
    zone_inside b =
        let ok = ed.accepted.readable.numbers in
        let fit = (map_pieces ed).fit in
        let z = (in_turn_law g l need parent ok fit b).free h (subst (In h) (sym stands_first.1) (inl refl)) in
        omega (arith, z.1, hole_zone g l ok fit z.0 z.1 h z.2)
