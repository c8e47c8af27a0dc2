-- The free bits of a zone that is drawn anew from its owned pieces are those that were free. Its fragments lie one after another from the
-- zone's first bit to its end, so what lies between two owned ones, and is now one free fragment, was nothing but free fragments.
use mathlib.Core.Path.{◌≡◌, refl, subst}
use mathlib.Core.List.{List, [], ◌∷◌, map}
use mathlib.Core.Logic.Iff
use mathlib.Core.Logic.{◌⊎◌, ◌↔◌, inl, inr, ⊎_elim, ⊎_map}
use mathlib.Core.Option.{some}
use Prim.Native.Nat.{ℕ, ◌+◌, ◌-◌, ◌*◌, ◌<◌, ◌≤◌}
use native.Mathlib.Omega.{arith}
use lib.Dec.{ltb}
use lib.ListN.{length}
use borrow.Author.Tests.{ltb-true, ltb-false}
use Rattle.bits.proofs.Tests.{by_test}
use Rattle.geometry.specs.declared.Geometry.{Geometry}
use Rattle.geometry.specs.Accepted.{AcceptedGeometry}
use Rattle.geometry.specs.Places.{first_bit, end_bit, disc_bit}
use Rattle.model.specs.Answer.{answered}
use Rattle.model.specs.Blocks.{link_in}
use Rattle.model.specs.Chain.{Pair, pair, Within, free, owned, Entry, entry, onward, follow}
use Rattle.model.specs.Check.{zone_read}
use Rattle.model.specs.Drawing.{gap_entry, drawn_entries}
use Rattle.model.specs.Fragments.{Fragment}
use Rattle.model.specs.Pieces.{owned_of, to_disc, free_of}
use Rattle.model.proofs.Followed.{total, by_following}
use Rattle.model.proofs.ZoneTests.{zone_tests}
use Rattle.edits.specs.Room.{In, InSome}
use Rattle.edits.proofs.ZoneFound.{cut_whole}
use Rattle.edits.proofs.ZonePlaces.{zone_low, zone_bits}

-- one or the other, where each is the same
pub either_same : {A B C D : Type 0} → A ↔ C → B ↔ D → (A ⊎ B) ↔ (C ⊎ D)
either_same a b = (⊎_map a.0 b.0, ⊎_map a.1 b.1)

-- the bits of stretches with one more in front
in_first : (q : Pair) (qs : List Pair) (d : ℕ) → InSome (q ∷ qs) d ↔ (Within q d ⊎ InSome qs d)
in_first q qs d = (λ h. there h.0 h.1 h.2, back)
  where
    there : (p : Pair) → In p (q ∷ qs) → Within p d → Within q d ⊎ InSome qs d
    there p (inl e) w = inl (subst (λ (x : Pair). Within x d) e w)
    there p (inr i) w = inr (p, i, w)

    back : Within q d ⊎ InSome qs d → InSome (q ∷ qs) d
    back (inl w) = (q, inl refl, w)
    back (inr h) = (h.0, inr h.1, h.2)

-- in disc bits
module _ (g : Geometry) (z : ℕ) where
  -- bit d lies in a free entry, and between two bits of the block
  abbrev pub FreeBit : List Entry → ℕ → Type 0
  FreeBit es d = InSome (map (to_disc g z) (free_of es)) d

  abbrev Between : ℕ → ℕ → ℕ → Type 0
  Between a e d = (disc_bit g z a ≤ d) × (d < disc_bit g z e)

  none_between : (a e : ℕ) (es : List Entry) (d : ℕ) → e ≤ a → (Between a e d ⊎ FreeBit es d) ↔ FreeBit es d
  none_between a e es d l = (⊎_elim (λ w. absurd (omega arith)) (λ k. k), inr)

  free_first : (q : Pair) (es : List Entry) (d : ℕ) → FreeBit (record { at = q; holder = free } ∷ es) d ↔ (Within (to_disc g z q) d ⊎ FreeBit es d)
  free_first q es d = in_first (to_disc g z q) (map (to_disc g z) (free_of es)) d

  gap_free : (a e : ℕ) (es : List Entry) → 512 ≤ z * g.bits + a → (d : ℕ) → FreeBit (gap_entry a e es) d ↔ (Between a e d ⊎ FreeBit es d)
  gap_free a e es h d =
      by_test (ltb a e)
      (λ t. simp t (Iff.trans (free_first (pair a (e - a)) es d) (either_same (gap_bits (ltb-true a e t)) Iff.rfl)))
      (λ t. simp t (inr, (none_between a e es d (ltb-false a e t)).0))
    where
      gap_bits : a < e → Within (to_disc g z (pair a (e - a))) d ↔ Between a e d
      gap_bits l = (λ w. (w.0, omega arith), λ w. (w.0, omega arith))

  -- Fragments followed from bit `at` to `end`, where all is free from bit a to `at`: the owned ones drawn anew from bit a on.
  abbrev DrawnFree : ℕ → List Fragment → List Entry → Type 0
  DrawnFree at fs es = (a end : ℕ) → a ≤ at → 512 ≤ z * g.bits + a → at + total fs ≡ end → (d : ℕ)
      → FreeBit (drawn_entries a end (owned_of es)) d ↔ (Between a at d ⊎ FreeBit es d)

  none_followed : (at : ℕ) → DrawnFree at [] []
  none_followed at a end l h e d =
      let k : end ≡ at = omega arith in
      subst (λ (x : ℕ). FreeBit (gap_entry a end []) d ↔ (Between a x d ⊎ FreeBit [] d)) k (gap_free a end [] h d)

  free_followed : (at : ℕ) (f : Fragment) (fs : List Fragment) (es : List Entry) → DrawnFree (at + f.len) fs es → DrawnFree at (f ∷ fs) (entry at f free ∷ es)
  free_followed at f fs es ih a end l h e d = Iff.trans (ih a end (omega arith) h (omega arith) d) (there, back)
    where
      mine : FreeBit (entry at f free ∷ es) d ↔ (Within (to_disc g z (pair at f.len)) d ⊎ FreeBit es d)
      mine = free_first (pair at f.len) es d

      there : Between a (at + f.len) d ⊎ FreeBit es d → Between a at d ⊎ FreeBit (entry at f free ∷ es) d
      there (inl w) =
          by_test (ltb d (disc_bit g z at))
          (λ t. inl (w.0, ltb-true d (disc_bit g z at) t))
          (λ t. inr (mine.1 (inl (ltb-false d (disc_bit g z at) t, omega arith))))
      there (inr k) = inr (mine.1 (inr k))

      back : Between a at d ⊎ FreeBit (entry at f free ∷ es) d → Between a (at + f.len) d ⊎ FreeBit es d
      back (inl w) = inl (w.0, omega arith)
      back (inr k) = ⊎_map (λ w. (omega arith, omega arith)) (λ k. k) (mine.0 k)

  owned_followed : (at : ℕ) (f : Fragment) (fs : List Fragment) (es : List Entry) → DrawnFree (at + f.len) fs es → DrawnFree at (f ∷ fs) (entry at f (owned f.id) ∷ es)
  owned_followed at f fs es ih a end l h e d =
      let next = at + f.len in
      Iff.trans (gap_free a at (entry at f (owned f.id) ∷ drawn_entries next end (owned_of es)) h d)
      (either_same Iff.rfl (Iff.trans (ih next end (omega arith) (omega arith) (omega arith) d) (none_between next next es d (omega arith))))

  followed_free : (at next : ℕ) (fs : List Fragment) (es : List Entry) → follow at next fs ≡ some es → DrawnFree at fs es
  followed_free = by_following DrawnFree none_followed free_followed owned_followed

  -- a zone that was read, drawn anew
  pub zone_free : (ok : AcceptedGeometry g) (b : List ℕ) (es : List Entry) → length b ≡ g.sector → zone_read g z b ≡ answered es → (d : ℕ)
      → FreeBit (drawn_entries (first_bit z) (end_bit g) (owned_of es)) d ↔ FreeBit es d
  zone_free ok b es size read d =
      let w = zone_tests g z b es read in
      let whole = cut_whole g.idlen (first_bit z) (end_bit g) b (zone_bits g ok z b size) w.fragments es w.cut w.chain in
      Iff.trans
      (followed_free (first_bit z) (onward 8 (link_in b)) w.fragments es w.chain (first_bit z) (end_bit g) (omega arith) (zone_low g ok z) whole d)
      (none_between (first_bit z) (first_bit z) es d (omega arith))
