-- What holds of a map's two copies (document 02, R-5). Assumes nothing.
use Rattle.std.specs.Prelude.{◌≡◌, true, List, [], ◌∷◌, ◌↔◌, ℕ, ◌+◌, ◌*◌, ◌<◌, length}
use Rattle.geometry.specs.Record.{geometry_of}
use Rattle.model.specs.Answer.{Answer, refused, answered}
use Rattle.model.specs.Chain.{Pair}
use Rattle.model.specs.Refusals.{Refusing, line, ByTable, Exactly}
use Rattle.model.specs.Rules.{MapRules}
use Rattle.model.specs.Table.{Judged}
use Rattle.listing.specs.Listed.{object_found}
use Rattle.copies.specs.declared.Which.{Which}
use Rattle.copies.specs.declared.Which.TheVariants.{First, Second}
use Rattle.copies.specs.declared.Addresses.{Addresses}
use Rattle.copies.specs.Copies.{copy_found, handed_back, same_bytes, copy_judged, copies_of, addresses_found}

-- "the first if it is accepted, else the second, else the first's refusal", in terms of the rules
pub data ChoiceSays (a b : List ℕ) : Answer Which → Type 0 where
  the_first : MapRules a → ChoiceSays a b (answered First)
  the_second : (MapRules a → ⊥) → MapRules b → ChoiceSays a b (answered Second)
  neither : (n z : ℕ) → (MapRules b → ⊥) → Judged a (refused n z) → ChoiceSays a b (refused n z)

-- "then 1 where lengths differ": what the call refuses of its own, once the source is accepted
abbrev pub copy_lines : List ℕ → List ℕ → List Refusing
copy_lines source target = line 1 (length target ≡ length source → ⊥) ∷ []

pub record CopyLaws : Type 0 where
  -- the calls answer what the paper says, and nothing else: each refusal "exactly when"
  pub choice_by_rules : (a b : List ℕ) → Exactly (ChoiceSays a b) (copy_found a b)
  pub copy_by_table : (source target : List ℕ) → Exactly (ByTable source (copy_lines source target) source) (copy_judged source target)
  pub addresses_by_table : (m : List ℕ) → Exactly (ByTable m [] (copies_of (geometry_of m))) (addresses_found m)
  -- "byte for byte equal"
  pub equal_exactly : (a b : List ℕ) → same_bytes a b ≡ true ↔ a ≡ b
  -- what is handed back where a copy is found is an accepted map, and where none is found it is empty
  pub part_accepted : (a b : List ℕ) (c : Which) → copy_found a b ≡ answered c → MapRules (handed_back a b)
  pub part_empty : (a b : List ℕ) (n z : ℕ) → copy_found a b ≡ refused n z → handed_back a b ≡ []
  -- "with an accepted copy it leaves alone, the pair still yields an accepted map whatever bytes the other is left with"
  pub first_left_alone : (m other : List ℕ) → MapRules m → handed_back m other ≡ m
  pub second_left_alone : (m other : List ℕ) → MapRules m → MapRules (handed_back other m) × ((MapRules other → ⊥) → handed_back other m ≡ m)
  -- after a copy both are equal and accepted, so that either order yields the source
  pub after_copy : (source target after : List ℕ) → copy_judged source target ≡ answered after
      → MapRules after × (same_bytes source after ≡ true) × (handed_back source after ≡ source) × (handed_back after source ≡ source)
  -- The first copy starts where the object of the middle zone does, 2, whose first piece `list` answers; so its first byte is on the disc.
  -- The second's bytes start where the first's end.
  pub first_at_object_2 : (m : List ℕ) (l : Addresses) → addresses_found m ≡ answered l → (room : ℕ) (qs : List Pair) → object_found m 2 room ≡ answered qs
      → (q : Pair) × (rest : List Pair) × (qs ≡ q ∷ rest) × (l.first ≡ q.start * (geometry_of m).unit)
  pub first_on_disc : (m : List ℕ) (l : Addresses) → addresses_found m ≡ answered l → l.first < (geometry_of m).size
  pub second_follows : (m : List ℕ) (l : Addresses) → addresses_found m ≡ answered l → l.second ≡ l.first + length m
