-- Buffers that are written piece by piece, as far as there is room.
use Rattle.std.proofs.Common.{◌≡◌, ℕ, zero, suc, List, [], ◌∷◌, ◌++◌, take, refl, ap, ◌∙◌}

take_front : (n : ℕ) (xs ys : List ℕ) → take n (take n xs ++ ys) ≡ take n (xs ++ ys)
take_front zero xs ys = refl
take_front (suc n) [] ys = refl
take_front (suc n) (x ∷ xs) ys = ap (λ (zs : List ℕ). x ∷ zs) (take_front n xs ys)

-- one more piece
pub then_piece : (room : ℕ) (xs ys was now : List ℕ) → was ≡ take room xs → now ≡ take room (was ++ ys) → now ≡ take room (xs ++ ys)
then_piece room xs ys was now e h = h ∙ ap (λ (zs : List ℕ). take room (zs ++ ys)) e ∙ take_front room xs ys
