-- A claim's list can be given as a place of it gives it, and the map is then the one after that place.
use mathlib.Core.Path.{◌≡◌, refl, sym, ap, ◌∙◌}
use mathlib.Core.List.{List}
use Prim.Native.Nat.{ℕ}
use native.Mathlib.Omega.{arith}
use borrow.Author.Tests.{ne_eqb}
use Rattle.geometry.specs.declared.Geometry.{Geometry}
use Rattle.model.specs.Answer.{answered}
use Rattle.model.specs.Shown.{pieces_on}
use Rattle.edits.specs.Edits.{gives}
use Rattle.edits.specs.Judge.{pairs_from, place}
use Rattle.edits.specs.Steps.{bytes_after, step}
use Rattle.edits.proofs.RunsKept.{place_tests}
use Rattle.edits.proofs.PiecesKept.{editable_from}
use Rattle.edits.proofs.Outcomes.{judged_told}
use Rattle.writer.specs.Edited.{edit_of, EditAsks, edited_map}
use Rattle.claim.specs.Given.{ListFits}

module _ {m : List ℕ} {g : Geometry} {id : ℕ} {list : List ℕ} (p : ListFits m g id list) where
  -- the pairs are given to an object, so that the edit gives and takes nothing
  gives_is : edit_of 0 (pairs_from list) id ≡ gives id (pairs_from list)
  gives_is =
      let o = editable_from g id (place_tests g (pieces_on g m) id list (gives id (pairs_from list)) p.fits).0 in
      rw (ne_eqb id 0 (λ e. omega arith))

  pub asks : EditAsks m g 0 list id
  asks = record {
    editable = p.editable;
    one_way = λ k. refl;
    ordered = record { object = id; fits = (place_tests g (pieces_on g m) id list (gives id (pairs_from list)) p.fits).2 };
    call = place id list;
    judged = p.fits ∙ ap answered (sym gives_is);
  }

  pub given : {after : List ℕ} → after ≡ edited_map m (edit_of 0 (pairs_from list) id) → after ≡ step m (place id list)
  given e = e ∙ ap (edited_map m) gives_is ∙ sym (ap (bytes_after m) (judged_told p.editable (place id list) (answered (gives id (pairs_from list))) p.fits))
