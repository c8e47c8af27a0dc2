-- Each refusal of a map has a number of the table, so its reason tells the number again.
use mathlib.Core.Path.{◌≡◌, refl, sym, ap, ◌∙◌}
use mathlib.Core.Bool.{Bool, true, false, cond}
use mathlib.Core.List.{List, [], ◌∷◌}
use Prim.Native.Nat.{ℕ, suc}
use Rattle.std.proofs.Math.Option.{Option, none, some}
use lib.ListN.{length}
use lib.Dec.{eqb, leb}
use Rattle.geometry.specs.declared.Geometry.{Geometry}
use Rattle.geometry.specs.declared.Refusal.{Refusal}
use Rattle.geometry.specs.Record.{disc_record, geometry_of}
use Rattle.geometry.specs.Ranges.{record_fits}
use Rattle.geometry.specs.Places.{first_bit, end_bit}
use Rattle.geometry.specs.Answers.{reason_of, number, refusal}
use Rattle.model.specs.Answer.{Answer, refused, answered, unless, and_then}
use Rattle.model.specs.Fragments.{Fragment, fragments_in}
use Rattle.model.specs.Chain.{Entry, onward, follow}
use Rattle.model.specs.Blocks.{free_link, link_in, alloc_bits}
use Rattle.model.specs.Check.{in_clusters, owners_fit, after_follow, after_cut, zone_read, join_zone, zones_read, differing, cross_sum, after_checks, blocks_read, blocks_of, length_fits, measured, map_read, mend_read}

abbrev ToldBack : {A : Type 0} → Answer A → Type 0
ToldBack (refused n z) = number (reason_of n) ≡ n
ToldBack (answered a) = Unit {0}

pub record Numbered {A : Type 0} (a : Answer A) : Type 0 where
  pub told : ToldBack a

module _ {A : Type 0} where
  pub no_refusal : {x : A} → Numbered (answered x)
  no_refusal = record { told = tt }

  pub refused_by : (n : ℕ) {z : ℕ} → number (reason_of n) ≡ n → Numbered {A = A} (refused n z)
  refused_by n e = record { told = e }

  pub one_of : (b : Bool) {x y : Answer A} → Numbered x → Numbered y → Numbered (cond b x y)
  one_of true p q = p
  one_of false p q = q

  pub unless_numbered : (b : Bool) (n : ℕ) {r : Answer A} → number (reason_of n) ≡ n → Numbered r → Numbered (unless b n r)
  unless_numbered b n e p = one_of b p (refused_by n e)

  pub then_numbered : {B : Type 0} {a : Answer A} (f : A → Answer B) → Numbered a → ((x : A) → Numbered (f x)) → Numbered (and_then a f)
  then_numbered {B} {a} f p q = go a p
    where
      go : (a : Answer A) → Numbered a → Numbered (and_then a f)
      go (refused n z) r = record { told = r.told }
      go (answered x) r = q x

zone_numbered : (g : Geometry) (z : ℕ) (b : List ℕ) → Numbered (zone_read g z b)
zone_numbered g z b = cut (fragments_in g.idlen (alloc_bits (first_bit z) (end_bit g) b))
  where
    followed : (es : Option (List Entry)) → Numbered (after_follow g z es)
    followed none = refused_by 5 refl
    followed (some es) = one_of (owners_fit g z es) no_refusal (refused_by 7 refl)

    cut : (fs : Option (List Fragment)) → Numbered (after_cut g z b fs)
    cut none = refused_by 6 refl
    cut (some fs) =
        one_of (in_clusters g.cluster fs) (one_of (leb 32768 (free_link b)) (followed (follow (first_bit z) (onward 8 (link_in b)) fs)) (refused_by 5 refl)) (refused_by 6 refl)

joined : (a : Answer (List Entry)) (r : Answer (List (List Entry))) → Numbered a → Numbered r → Numbered (join_zone a r)
joined (refused n z) r p q = record { told = p.told }
joined (answered es) (refused n z) p q = record { told = q.told }
joined (answered es) (answered ess) p q = no_refusal

pub zones_numbered : (g : Geometry) (z : ℕ) (bs : List (List ℕ)) → Numbered (zones_read g z bs)
zones_numbered g z [] = no_refusal
zones_numbered g z (b ∷ bs) = joined (zone_read g z b) (zones_read g (suc z) bs) (zone_numbered g z b) (zones_numbered g (suc z) bs)

blocks_numbered : (g : Geometry) (bs : List (List ℕ)) → Numbered (blocks_read g bs)
blocks_numbered g bs = checks (differing 0 bs)
  where
    checks : (d : Option ℕ) → Numbered (after_checks d (unless (eqb (cross_sum bs) 255) 4 (zones_read g 0 bs)))
    checks none = unless_numbered (eqb (cross_sum bs) 255) 4 refl (zones_numbered g 0 bs)
    checks (some z) = refused_by 3 refl

module _ (m : List ℕ) where
  measured_numbered : {r : Answer (List (List Entry))} → Numbered r → Numbered (measured m r)
  measured_numbered p =
      unless_numbered (leb 64 (length m)) 1 refl (unless_numbered (record_fits (disc_record m)) 2 refl (unless_numbered (length_fits (geometry_of m) m) 1 refl p))

  pub map_numbered : Numbered (map_read m)
  map_numbered = measured_numbered (blocks_numbered (geometry_of m) (blocks_of (geometry_of m) m))

  pub mend_numbered : Numbered (mend_read m)
  mend_numbered = measured_numbered (zones_numbered (geometry_of m) 0 (blocks_of (geometry_of m) m))

-- what is found of a refusal, told by the code's own
module _ {A : Type 0} where
  pub told_by : {f : Answer A} (n : ℕ) {z : ℕ} {r : Refusal} → number (reason_of n) ≡ n → f ≡ refused n z → r ≡ refusal n z → f ≡ refused (number r.reason) r.zone
  told_by n {z = z} k e er = e ∙ ap (λ (i : ℕ). refused i z) (sym k) ∙ ap (λ (x : Refusal). refused (number x.reason) x.zone) (sym er)
