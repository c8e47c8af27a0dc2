-- A byte that is found lies in one of the pairs, and so do all bytes of its run; after them comes the next pair's first byte.
use mathlib.Core.Path.{◌≡◌, refl, sym, ap, ◌∙◌}
use mathlib.Core.List.{List, [], ◌∷◌}
use Prim.Native.Nat.{ℕ, suc, ◌+◌, ◌-◌, ◌*◌, ◌<◌}
use native.Mathlib.Omega.{arith}
use lib.Dec.{ltb}
use lib.ListN.{drop}
use borrow.Author.Tests.{lt-ltb, le-ltb, ltb-true, ltb-false}
use Rattle.bits.proofs.Tests.{by_test}
use Rattle.model.specs.Chain.{Pair}
use Rattle.listing.specs.Laws.{At, first, later}
use Rattle.address.specs.declared.Location.{Location}
use Rattle.address.specs.Address.{at, locate}
use Rattle.address.proofs.Joined.{never_at, same_byte}

pub at_drop : {q : Pair} {k : ℕ} {qs : List Pair} → At q k qs → drop k qs ≡ q ∷ drop (suc k) qs
at_drop first = refl
at_drop (later v) = at_drop v

module _ (unit : ℕ) where
  -- byte x of a pair
  abbrev pub byte_of : Pair → ℕ → Location
  byte_of q x = record { address = q.start * unit + x; run = q.len * unit - x }

  -- byte i of the pairs: byte x of one of them, which has so many bytes before it
  pub record InPair (qs : List Pair) (i : ℕ) (l : Location) : Type 0 where
    pub place : ℕ
    pub pair : Pair
    pub there : At pair place qs
    pub before : ℕ
    pub x : ℕ
    pub sum : i ≡ before + x
    pub inside : x < pair.len * unit
    pub value : l ≡ byte_of pair x
    pub bytes : (y : ℕ) → y < pair.len * unit → locate unit qs (before + y) ≡ at (byte_of pair y)
    pub after : locate unit qs (before + pair.len * unit) ≡ locate unit (drop (suc place) qs) 0

  -- past the first pair
  pub behind : (q : Pair) (qs : List Pair) (i j : ℕ) → i ≡ q.len * unit + j → locate unit (q ∷ qs) i ≡ locate unit qs j
  behind q qs i j e =
      let d : i - q.len * unit ≡ j = omega arith in
      rw (le-ltb i (q.len * unit) (omega arith)) (ap (locate unit qs) d)

  pub in_pair : (qs : List Pair) (i : ℕ) (l : Location) → locate unit qs i ≡ at l → InPair qs i l
  in_pair [] i l e = absurd (never_at i l e)
  in_pair (q ∷ qs) i l e =
      let n : ℕ = q.len * unit in
      by_test (ltb i n)
      (λ t. record {
        place = 0;
        pair = q;
        there = first;
        before = 0;
        x = i;
        sum = omega arith;
        inside = ltb-true i n t;
        value = sym (same_byte (byte_of q i) l (rw t at e));
        bytes = λ y h. let z : 0 + y ≡ y = omega arith in ap (locate unit (q ∷ qs)) z ∙ rw (lt-ltb y n h);
        after = behind q qs (0 + n) 0 (omega arith);
      })
      (λ t. let r = in_pair qs (i - n) l (rw t at e) in
      record {
        place = suc r.place;
        pair = r.pair;
        there = later r.there;
        before = n + r.before;
        x = r.x;
        sum = omega (arith, ltb-false i n t, r.sum);
        inside = r.inside;
        value = r.value;
        bytes = λ y h. behind q qs (n + r.before + y) (r.before + y) (omega arith) ∙ r.bytes y h;
        after = behind q qs (n + r.before + r.pair.len * unit) (r.before + r.pair.len * unit) (omega arith) ∙ r.after;
      })
