-- The chain of free fragments (document 01, "Bits, fragments, chains"): which fragments are free, and who owns the others.
-- Assumes nothing.
use Rattle.std.specs.Prelude.{◌≡◌, Bool, true, false, cond, not, ◌&&◌, List, [], ◌∷◌, ℕ, suc, ◌+◌, ◌<◌, ◌≤◌, eqb}
use Rattle.std.proofs.Math.Option.{Option, none, some}
use Rattle.model.specs.Fragments.{Fragment}

-- a stretch of bits: where it starts, its length
pub record Pair : Type 0 where
  pub start : ℕ
  pub len : ℕ

abbrev pub pair : ℕ → ℕ → Pair
pair start len = record { start = start; len = len }

-- bit d lies in a stretch
abbrev pub Within : Pair → ℕ → Type 0
Within q d = (q.start ≤ d) × (d < q.start + q.len)

-- pairs as the numbers of a list: "disc bit, length in map bits"
abbrev pub numbers_of : List Pair → List ℕ
numbers_of [] = []
numbers_of (q ∷ qs) = q.start ∷ q.len ∷ numbers_of qs

pub data Holder : Type 0 where
  free : Holder
  owned : ℕ → Holder

-- a fragment at its place, with its holder
pub record Entry : Type 0 where
  pub at : Pair
  pub holder : Holder

abbrev pub entry : ℕ → Fragment → Holder → Entry
entry at f h = record { at = pair at f.len; holder = h }

-- Where a link leads that is counted from a place: on by so many bits, or nowhere, which is 0. "FreeLink .. count[s] from
-- block bit 8 to the first free fragment, or [is] 0. A free fragment's id counts from its own start to the next one, or
-- is 0."
abbrev pub onward : ℕ → ℕ → ℕ
onward at link = cond (eqb link 0) 0 (at + link)

-- The rules' words. The fragments lie one after another from bit `at` on: fragment f starts at bit a.
pub data StartsAt : ℕ → List Fragment → ℕ → Fragment → Type 0 where
  here : {at : ℕ} {f : Fragment} {fs : List Fragment} → StartsAt at (f ∷ fs) at f
  later : {at a : ℕ} {f g : Fragment} {fs : List Fragment} → StartsAt (at + g.len) fs a f → StartsAt at (g ∷ fs) a f

-- A place on the chain: where the first link leads, and where the id of a fragment on the chain leads.
pub data OnChain (at next : ℕ) (fs : List Fragment) : ℕ → Type 0 where
  first : (next ≡ 0 → ⊥) → OnChain at next fs next
  further : {a : ℕ} {f : Fragment} → OnChain at next fs a → StartsAt at fs a f → (f.id ≡ 0 → ⊥) → OnChain at next fs (a + f.id)

-- "Each non-zero link lands on a fragment's start."
abbrev pub LinksLand : ℕ → ℕ → List Fragment → Type 0
LinksLand at next fs = (a : ℕ) → OnChain at next fs a → (f : Fragment) × StartsAt at fs a f

-- The same computed: the chain followed through the fragments, none where a link is left that lands nowhere. "Fragments on
-- the chain are free; all others are owned by their id".
abbrev pub before : {A : Type 0} → A → Option (List A) → Option (List A)
before x none = none
before x (some xs) = some (x ∷ xs)

abbrev pub follow : ℕ → ℕ → List Fragment → Option (List Entry)
follow at next [] = cond (eqb next 0) (some []) none
follow at next (f ∷ fs) =
    cond (eqb at next)
    (before (entry at f free) (follow (at + f.len) (onward at f.id) fs))
    (before (entry at f (owned f.id)) (follow (at + f.len) next fs))

-- "two free fragments of a zone touch": whether none does, and whether the fragment before was free
abbrev pub is_free : Holder → Bool
is_free free = true
is_free (owned id) = false

abbrev pub none_touch : Bool → List Entry → Bool
none_touch was_free [] = true
none_touch was_free (e ∷ es) = not (was_free && is_free e.holder) && none_touch (is_free e.holder) es

-- the lowest zone from z on in which two do
abbrev pub touching : ℕ → List (List Entry) → Option ℕ
touching z [] = none
touching z (es ∷ ess) = cond (none_touch false es) (touching (suc z) ess) (some z)
