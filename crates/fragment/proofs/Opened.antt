-- The fragment at a place of a zone that can be read, and what is read after it: the bits from the place on are cut, so a 1
-- closes the first fragment before their end, and its id and its zeros are those that the code counts.
use Rattle.std.proofs.Common.{◌≡◌, Bool, List, [], ◌∷◌, ℕ, suc, ◌+◌, ◌-◌, ◌<◌, ◌≤◌, ltb, length, drop, ap, ◌∙◌, refl, arith}
use Rattle.std.proofs.Math.Option.{Option, none, some}
use Rattle.std.proofs.Math.Seq.{slice, slice_empty, length-slice}
use Rattle.std.proofs.lemmas.List.{drop-drop}
use Rattle.std.proofs.lemmas.Bool.Decides.{nat_tests}
use borrow.Author.Tests.{ltb-true, ltb-false}
use Rattle.bits.specs.Bits.{zeros}
use Rattle.bits.proofs.Tests.{by_test}
use Rattle.model.specs.Fragments.{Fragment, fragments_in}
use Rattle.model.specs.Chain.{Entry, entry, before}
use Rattle.fragment.specs.Found.{next_after}
use Rattle.fragment.specs.Reading.{id_at, length_at, follow_from, read_from, CanRead, entries_some, holder_at}
use Rattle.fragment.proofs.Slices.{front}
use Rattle.fragment.proofs.Step.{fragment_of, cut_first, cut_none}

-- a fragment of this id and length stands at `at`, and the reading begins with it
pub record Opened (idlen at end chain : ℕ) (B : List Bool) (id len : ℕ) : Type 0 where
  pub long : idlen < len
  pub within : at + len ≤ end
  pub readable : CanRead (read_from idlen at end chain B)
  pub reads : read_from idlen at end chain B ≡ before (entry at (fragment_of id len) (holder_at at chain id)) (read_from idlen (at + len) end (next_after at chain id) B)

read_first : (at chain : ℕ) (f : Fragment) (r : Option (List Fragment))
    → follow_from at chain (before f r) ≡ before (entry at f (holder_at at chain f.id)) (follow_from (at + f.len) (next_after at chain f.id) r)
read_first at chain f r = grind (arith, nat_tests)

none_unread : (at chain : ℕ) (r : Option (List Fragment)) → r ≡ none → CanRead (follow_from at chain r) → ⊥
none_unread at chain none e d = d
none_unread at chain (some fs) e d = cc

module _ (idlen at end chain : ℕ) (B : List Bool) (pos : 0 < idlen) (he : end ≤ length B) (h : at < end) (d : CanRead (read_from idlen at end chain B)) where
  same : suc (idlen - 1) ≡ idlen
  same = omega arith

  size : length (slice at end B) ≡ end - at
  size = length-slice at end B he

  -- its closing bit stands before the end
  pub closes : at + length_at idlen at end B ≤ end
  closes =
      by_test (ltb end (at + length_at idlen at end B))
      (λ t. let u : length (slice at end B) ≤ suc (idlen - 1) + zeros (drop (suc (idlen - 1)) (slice at end B)) = rw (same, drop-drop) (omega (arith, size, ltb-true _ _ t)) in
      absurd (none_unread at chain (fragments_in idlen (slice at end B)) (cut_none (idlen - 1) (slice at end B) (omega (arith, size)) u) d))
      (ltb-false _ _)

  cuts : fragments_in idlen (slice at end B) ≡ before (fragment_of (id_at idlen at B) (length_at idlen at end B)) (fragments_in idlen (slice (at + length_at idlen at end B) end B))
  cuts =
      let f = front B at end idlen (omega (arith, closes)) in
      let c = rw same at (cut_first (idlen - 1) (zeros (slice (at + idlen) end B)) (slice at end B) (rw (same, drop-drop) refl) (omega (arith, size, closes))) in
      c ∙ rw (f, drop-drop)

  pub opened : (id len : ℕ) → id ≡ id_at idlen at B → len ≡ length_at idlen at end B → Opened idlen at end chain B id len
  opened id len ei el = record {
    long = omega arith;
    within = omega (arith, closes);
    readable = d;
    reads = rw (ei, el) (ap (follow_from at chain) cuts ∙ read_first at chain (fragment_of (id_at idlen at B) (length_at idlen at end B)) (fragments_in idlen (slice (at + length_at idlen at end B) end B)));
  }

-- what is read after it
read_rest : (e : Entry) (r : Option (List Entry)) → CanRead (before e r) → CanRead r × (entries_some (before e r) ≡ e ∷ entries_some r)
read_rest e none d = absurd d
read_rest e (some es) d = (tt, refl)

module _ {idlen at end chain : ℕ} {B : List Bool} {id len : ℕ} (o : Opened idlen at end chain B id len) where
  pub read_on : CanRead (read_from idlen (at + len) end (next_after at chain id) B)
      × (entries_some (read_from idlen at end chain B) ≡ entry at (fragment_of id len) (holder_at at chain id) ∷ entries_some (read_from idlen (at + len) end (next_after at chain id) B))
  read_on =
      let e = entry at (fragment_of id len) (holder_at at chain id) in
      let r = read_from idlen (at + len) end (next_after at chain id) B in
      let p = read_rest e r (rw o.reads at o.readable) in
      (p.0, ap entries_some o.reads ∙ p.1)

-- nothing is left at the end
pub none_read : (idlen end chain : ℕ) (B : List Bool) → entries_some (read_from idlen end end chain B) ≡ []
none_read idlen end chain B = rw (slice_empty end B) (grind (arith, nat_tests))
