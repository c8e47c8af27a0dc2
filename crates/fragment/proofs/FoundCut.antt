-- What the fragment found says of the zone's cut: the cut starts with it, or fails, or starts with one of uneven length.
use Rattle.std.proofs.Common.{◌≡◌, Bool, true, false, cond, ◌&&◌, List, ℕ, zero, suc, ◌+◌, ◌-◌, ◌%◌, ◌<◌, ◌≤◌, eqb, ltb, length, take, drop, Some, None, refl, arith}
use Rattle.std.proofs.Math.Option.{Option, none}
use Rattle.std.specs.Option.{MatchOption}
use Rattle.std.specs.Prelude.{Option as Maybe}
use borrow.Author.Tests.{ltb-true, ltb-false, eqb-true}
use Rattle.bits.specs.Bits.{value, zeros}
use Rattle.model.specs.Fragments.{Fragment, edge, cut}
use Rattle.model.specs.Chain.{before}
use Rattle.fragment.specs.declared.FragmentRead.{FragmentRead}
use Rattle.fragment.specs.Found.{fragment, read}
use Rattle.fragment.proofs.Step.{fragment_of, cut_first, cut_none}

pub record FoundWhole (n k : ℕ) (bs : List Bool) (f : FragmentRead) : Type 0 where
  pub cuts : cut n edge bs ≡ before (fragment_of f.id f.len) (cut n edge (drop f.len bs))
  pub in_clusters : f.len % k ≡ 0
  pub some_bits : 0 < f.len
  pub within_bits : f.len ≤ length bs

pub data FoundBroken (n k : ℕ) (bs : List Bool) : Type 0 where
  unclosed : cut n edge bs ≡ none → FoundBroken n k bs
  uneven : (f : Fragment) (r : Option (List Fragment)) → cut n edge bs ≡ before f r → eqb (f.len % k) 0 ≡ false → FoundBroken n k bs

-- n is idlen - 1
abbrev pub Meaning : ℕ → ℕ → List Bool → Maybe FragmentRead → Type 0
Meaning n k bs r = MatchOption r (FoundBroken n k bs) (FoundWhole n k bs)

meaning : (n k : ℕ) (bs : List Bool) → 0 < length bs → Meaning n k bs (fragment (suc n) k bs)
unfolding fragment
meaning n k bs h = go (ltb (suc n + z) (length bs)) (eqb ((suc n + z + 1) % k) 0) refl refl
  where
    z : ℕ
    z = zeros (drop (suc n) bs)

    go : (b1 b2 : Bool) → ltb (suc n + z) (length bs) ≡ b1 → eqb ((suc n + z + 1) % k) 0 ≡ b2
        → Meaning n k bs (cond (b1 && b2) (Some (read (value (take (suc n) bs)) (suc n + z + 1))) None)
    go true true p q =
        let r : suc n + z < length bs = ltb-true _ _ p in
        record { cuts = cut_first n z bs refl r; in_clusters = eqb-true _ _ q; some_bits = omega arith; within_bits = omega arith }
    go true false p q = uneven _ _ (cut_first n z bs refl (ltb-true _ _ p)) q
    go false b2 p q = unclosed (cut_none n bs h (ltb-false _ _ p))

pub found : (idlen k : ℕ) (bs : List Bool) → 0 < length bs → 0 < idlen → (r : Maybe FragmentRead) → r ≡ fragment idlen k bs → Meaning (idlen - 1) k bs r
found zero k bs h i r q = absurd (omega arith)
found (suc n) k bs h i r q = let e : suc n - 1 ≡ n = omega arith in rw (q, e) (meaning n k bs h)
