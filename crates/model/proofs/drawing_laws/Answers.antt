-- The laws of `ZoneDrawn`, with the id's length as it stands.
use Rattle.model.proofs.ZoneDrawn.{read_drawn, owned_drawn, drawn_read}
use Rattle.model.proofs.drawing_laws.Goals as goal

-- src/lib.rt:14:1
pub returns : goal.returns
returns c =
    record {
      read_drawn = λ idlen at end ps h. read_drawn idlen h at end ps;
      pieces_back = owned_drawn;
      drawn_read = λ idlen at link bits es h. drawn_read idlen h at link bits es;
    }
