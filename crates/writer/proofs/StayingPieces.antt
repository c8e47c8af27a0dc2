-- The lines of a zone that stay, as pieces: the zone's pieces without those that go.
use mathlib.Core.Path.{◌≡◌, refl, sym, ap, ◌∙◌}
use mathlib.Core.Bool.{Bool, true, not, ◌&&◌}
use mathlib.Core.List.{List, [], ◌∷◌, ◌++◌, map}
use Prim.Native.Nat.{ℕ, ◌+◌, ◌-◌, ◌<◌, ◌≤◌}
use native.Mathlib.Omega.{arith}
use lib.Dec.{eqb}
use lib.ListN.{length, set, take, length-map}
use Rattle.std.specs.List.{filter}
use Rattle.std.proofs.lemmas.List.{take_more_set, map_push}
use Rattle.bits.proofs.Tests.{by_test, both}
use Rattle.geometry.specs.declared.Geometry.{Geometry}
use Rattle.model.specs.Chain.{Holder, free, owned, Entry}
use Rattle.model.specs.Check.{every, holder_fits, id_fits}
use Rattle.model.specs.Pieces.{Piece, owned_if, owned_of, piece_to_disc}
use Rattle.model.specs.Rules.{zone_block}
use Rattle.zone.specs.Lines.{entries_in}
use Rattle.map.specs.Accepted.{ReadableFrom}
use Rattle.walk.specs.declared.Line.{Line}
use Rattle.walk.specs.Remaining.{line_of, lines_in, lines_from}
use Rattle.walk.proofs.LinesOf.{lines_of_one, few_in}
use Rattle.walk.proofs.OwnersSome.{ids_fit, owner_some}
use Rattle.edits.specs.Edits.{without, own}
use Rattle.writer.specs.declared.Piece as code
use Rattle.writer.specs.Listed.{as_pieces}
use Rattle.writer.specs.Edited.{owned_in_zone}

abbrev pub stays : ℕ → Line → Bool
stays gone l = not (eqb l.holder 0) && not (eqb l.holder gone)

abbrev pub piece_of : Line → code.Piece
piece_of l = record { owner = l.holder; start = l.start; len = l.len }

abbrev pub kept : ℕ → List Line → List Piece
kept gone ls = as_pieces (map piece_of (filter (stays gone) ls))

-- one more is stored
pub stored_more : (buffer : List code.Piece) (n : ℕ) (ls : List Line) (l : Line) → n < length buffer → take n buffer ≡ map piece_of ls
    → take (n + 1) (set buffer n (piece_of l)) ≡ map piece_of (ls ++ l ∷ [])
stored_more buffer n ls l h e = take_more_set buffer n (piece_of l) h ∙ ap (λ (r : List code.Piece). r ++ (piece_of l ∷ [])) e ∙ sym (map_push piece_of ls l)

-- the lines of a zone that stay are its pieces without those that go
zone_stays : (g : Geometry) (z gone : ℕ) (es : List Entry) → every (id_fits g) es ≡ true
    → kept gone (map (line_of g z) es) ≡ without gone (map (piece_to_disc g z) (owned_of es))
zone_stays g z gone [] f = refl
zone_stays g z gone (e ∷ es) f = let b = both (id_fits g e) (every (id_fits g) es) f in go e.holder b.0 (zone_stays g z gone es b.1)
  where
    go : (h : Holder) → holder_fits g h ≡ true → kept gone (map (line_of g z) es) ≡ without gone (map (piece_to_disc g z) (owned_of es))
        → kept gone (line_of g z (record { at = e.at; holder = h }) ∷ map (line_of g z) es) ≡ without gone (map (piece_to_disc g z) (owned_if h e.at (owned_of es)))
    go free k ih = ih
    go (owned id) k ih =
        by_test (eqb id gone)
        (λ t. simp (owner_some g id k, t) ih)
        (λ t. simp (owner_some g id k, t) (ap (λ (r : List Piece). piece_to_disc g z (own id e.at) ∷ r) ih))

length_filter : (gone : ℕ) (ls : List Line) → length (filter (stays gone) ls) ≤ length ls
length_filter gone [] = omega arith
length_filter gone (l ∷ ls) = by_test (stays gone l) (λ t. rw t (omega (arith, length_filter gone ls))) (λ t. rw t (omega (arith, length_filter gone ls)))

module _ {m : List ℕ} {g : Geometry} {z : ℕ} (a : ReadableFrom m g z) (h : z < g.zones) {lines : List Line} (e : lines ≡ lines_from g m z (z + 1 - z)) where
  pub few_stay : (gone : ℕ) → length (filter (stays gone) lines) ≤ 682
  few_stay gone = omega (arith, length_filter gone lines, ap length (e ∙ lines_of_one g m z), few_in a h)

  pub all_stored : (gone : ℕ) → kept gone lines ≡ without gone (owned_in_zone g z (zone_block g m z))
  all_stored gone =
      let es = entries_in g z (zone_block g m z) in
      ap (kept gone) (e ∙ lines_of_one g m z) ∙ zone_stays g z gone es (ids_fit g z (zone_block g m z) es (a.reads z (omega arith) h))
