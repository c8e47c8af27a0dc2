-- One slice of bytes and the blocks of its zones: cut up and joined again, either way round, and each block by its place.
use mathlib.Core.Path.{◌≡◌, refl, sym, ap, ap₂, ◌∙◌}
use mathlib.Core.List.{List, [], ◌∷◌, ◌++◌}
use Prim.Native.Nat.{ℕ, zero, suc, ◌+◌, ◌-◌, ◌*◌, ◌<◌}
use native.Mathlib.Omega.{arith}
use lib.ListN.{length, get_or, take, drop, length-append, length-drop, take-append-drop}
use lib.Seq.{length-take-le, take_at, drop_at, drop-append-add, ext_get_or}
use Rattle.bits.specs.Bits.{Bytes}
use Rattle.model.specs.Blocks.{blocks, flat, block_at}

-- every block has the sector's size
abbrev pub Sized : ℕ → List (List ℕ) → Type 0
Sized size [] = Unit {0}
Sized size (b ∷ bs) = (length b ≡ size) × Sized size bs

-- every block is of bytes
abbrev pub EachBytes : List (List ℕ) → Type 0
EachBytes [] = Unit {0}
EachBytes (b ∷ bs) = Bytes b × EachBytes bs

pub flat_blocks : (size n : ℕ) (m : List ℕ) → length m ≡ n * size → flat (blocks size n m) ≡ m
flat_blocks size zero [] h = refl
flat_blocks size zero (b ∷ m) h = absurd (omega arith)
flat_blocks size (suc n) m h =
    ap (λ (r : List ℕ). take size m ++ r) (flat_blocks size n (drop size m) (simp length-drop (omega arith))) ∙ take-append-drop size m

pub blocks_flat : (size : ℕ) (bs : List (List ℕ)) → Sized size bs → blocks size (length bs) (flat bs) ≡ bs
blocks_flat size [] h = refl
blocks_flat size (b ∷ bs) h = simp (take_at b (flat bs) size h.0, drop_at b (flat bs) size h.0, blocks_flat size bs h.1)

pub sized_blocks : (size n : ℕ) (m : List ℕ) → length m ≡ n * size → Sized size (blocks size n m)
sized_blocks size zero m h = tt
sized_blocks size (suc n) m h = (length-take-le size m (omega arith), sized_blocks size n (drop size m) (simp length-drop (omega arith)))

pub length_blocks : (size n : ℕ) (m : List ℕ) → length (blocks size n m) ≡ n
length_blocks size zero m = refl
length_blocks size (suc n) m = ap suc (length_blocks size n (drop size m))

pub length_flat : (size : ℕ) (bs : List (List ℕ)) → Sized size bs → length (flat bs) ≡ length bs * size
length_flat size [] h = omega arith
length_flat size (b ∷ bs) h = length-append b (flat bs) ∙ omega (arith, length_flat size bs h.1)

-- a block by its place
pub block_of_flat : (size : ℕ) (bs : List (List ℕ)) (z : ℕ) → Sized size bs → z < length bs → block_at size z (flat bs) ≡ get_or bs z []
block_of_flat size [] z h l = absurd (omega arith)
block_of_flat size (b ∷ bs) zero h l =
    let e : 0 * size + size - 0 * size ≡ size = omega arith in
    let f : 0 * size ≡ 0 = omega arith in
    ap₂ (λ (n k : ℕ). take n (drop k (b ++ flat bs))) e f ∙ take_at b (flat bs) size h.0
block_of_flat size (b ∷ bs) (suc z) h l =
    let e : suc z * size + size - suc z * size ≡ z * size + size - z * size = omega arith in
    let f : suc z * size ≡ length b + z * size = omega arith in
    ap₂ (λ (n k : ℕ). take n (drop k (b ++ flat bs))) e f
    ∙ ap (take (z * size + size - z * size)) (drop-append-add b (flat bs) (z * size))
    ∙ block_of_flat size bs z h.1 (omega arith)

pub block_of_slice : (size n : ℕ) (m : List ℕ) (z : ℕ) → length m ≡ n * size → z < n → get_or (blocks size n m) z [] ≡ block_at size z m
block_of_slice size n m z h l =
    sym (block_of_flat size (blocks size n m) z (sized_blocks size n m h) (omega (arith, length_blocks size n m)))
    ∙ ap (block_at size z) (flat_blocks size n m h)

-- two maps whose blocks agree are one
pub same_blocks : (size n : ℕ) (a b : List ℕ) → length a ≡ n * size → length b ≡ n * size → ((z : ℕ) → z < n → block_at size z a ≡ block_at size z b) → a ≡ b
same_blocks size n a b la lb h =
    sym (flat_blocks size n a la)
    ∙ ap flat (ext_get_or [] (blocks size n a) (blocks size n b) (length_blocks size n a ∙ sym (length_blocks size n b))
    (λ z l. let k : z < n = omega (arith, length_blocks size n a) in block_of_slice size n a z la k ∙ h z k ∙ sym (block_of_slice size n b z lb k)))
    ∙ flat_blocks size n b lb

-- bytes of a slice are bytes of its blocks
pub bytes_left : (a b : List ℕ) → Bytes (a ++ b) → Bytes a
bytes_left [] b h = tt
bytes_left (x ∷ a) b h = (h.0, bytes_left a b h.1)

pub bytes_right : (a b : List ℕ) → Bytes (a ++ b) → Bytes b
bytes_right [] b h = h
bytes_right (x ∷ a) b h = bytes_right a b h.1

pub each_bytes : (bs : List (List ℕ)) → Bytes (flat bs) → EachBytes bs
each_bytes [] h = tt
each_bytes (b ∷ bs) h = (bytes_left b (flat bs) h, each_bytes bs (bytes_right b (flat bs) h))
