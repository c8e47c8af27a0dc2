-- Pieces added to a text one after another are the whole added.
use Rattle.std.proofs.Common.{◌≡◌, refl, sym, List, [], ◌++◌, ℕ, ◌≤◌, length, length-append, take, append_assoc, append-nil, arith, subst}
use Rattle.std.proofs.lemmas.List.{drop-drop}
use Rattle.map_text.specs.declared.Text.{Text}
use Rattle.map_text.specs.Parts.{Adds, Moves}

adds_none : (a : Text) → a.len ≤ length a.buffer.now → Adds [] a a
adds_none a h = record { text = sym (append-nil (take a.len a.buffer.now)); beyond = refl; len = omega arith; room = refl; within = h; same_buffer = refl }

pub adds_then : {p q : List ℕ} {a b c : Text} → Adds p a b → Adds q b c → Adds (p ++ q) a c
adds_then {p} {q} {a} {b} x y = record {
  text = cc (append_assoc (take a.len a.buffer.now) p q);
  beyond = cc (drop-drop (length q) b.len a.buffer.now, drop-drop (length q) b.len b.buffer.now);
  len = omega (arith, length-append p q);
  room = cc;
  within = y.within;
  same_buffer = cc;
}

pub adds_as : {p q : List ℕ} {a b : Text} → p ≡ q → Adds p a b → Adds q a b
adds_as {a = a} {b = b} e x = subst (λ (p : List ℕ). Adds p a b) e x

-- what was left, moved piece after piece
pub moves_none : (left : List ℕ) (a : Text) → a.len ≤ length a.buffer.now → Moves left a a left
moves_none left a h = record { piece = []; adds = adds_none a h; whole = refl }

pub moves_then : {left rest after p : List ℕ} {a b c : Text} → Moves left a b rest → rest ≡ p ++ after → Adds p b c → Moves left a c after
moves_then {after = after} {p = p} m e x = record { piece = m.piece ++ p; adds = adds_then m.adds x; whole = cc (append_assoc m.piece p after) }
