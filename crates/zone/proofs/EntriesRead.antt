-- A zone that was read, from its first fragment on: the entries that the reading gives, and the first of a chain.
use mathlib.Core.Path.{◌≡◌, sym, ap, ◌∙◌}
use mathlib.Core.List.{List, ◌∷◌}
use mathlib.Core.Option.{some}
use Prim.Native.Nat.{ℕ, ◌+◌}
use lib.Dec.{eqb}
use Rattle.bits.proofs.Tests.{by_test}
use Rattle.fragment.specs.Found.{next_after}
use Rattle.fragment.proofs.Step.{fragment_of}
use Rattle.geometry.specs.declared.Geometry.{Geometry}
use Rattle.model.specs.Fragments.{Fragment}
use Rattle.model.specs.Chain.{free, owned, Entry, entry, onward, follow}
use Rattle.model.specs.Answer.{answered}
use Rattle.model.specs.Check.{zone_read}
use Rattle.model.proofs.Followed.{before_inv}
use Rattle.fragment.specs.Reading.{holder_at}
use Rattle.zone.specs.Lines.{entries_of, entries_in, IsRead}

-- a zone that was read has the entries that the reading gives
pub is_read : (g : Geometry) (z : ℕ) (b : List ℕ) (es : List Entry) → zone_read g z b ≡ answered es → (entries_in g z b ≡ es) × IsRead g z b
is_read g z b es e = let k : entries_in g z b ≡ es = ap entries_of e in (k, e ∙ ap answered (sym k))

-- the first entry of a chain
pub chain_parts : (at next id len : ℕ) (fs : List Fragment) (es : List Entry) → follow at next (fragment_of id len ∷ fs) ≡ some es
    → (gs : List Entry) × (follow (at + len) (next_after at next id) fs ≡ some gs) × (es ≡ entry at (fragment_of id len) (holder_at at next id) ∷ gs)
chain_parts at next id len fs es e =
    by_test (eqb at next)
    (λ h. simp h (before_inv (entry at (fragment_of id len) free) (follow (at + len) (onward at id) fs) es (simp h at e)))
    (λ h. simp h (before_inv (entry at (fragment_of id len) (owned id)) (follow (at + len) next fs) es (simp h at e)))
