-- Texts that are put one after the other.
use Rattle.std.proofs.Common.{◌≡◌, ℕ, ◌+◌, ◌<◌, List, ◌∷◌, ◌++◌, length, get_or, drop, add-one, sym, ap, ap₂, ◌∙◌, append_assoc}
use Rattle.std.proofs.Math.Seq.{drop-cons}

-- with the text of one item more, where that of a list begins with that of its first item
pub put_next : {X : Type 0} (all_of : List X → List ℕ) (one_of : X → List ℕ) → ((x : X) (rest : List X) → all_of (x ∷ rest) ≡ one_of x ++ all_of rest)
    → (xs : List X) (i : ℕ) (x : X) (out new all : List ℕ) → i < length xs → x ≡ get_or xs i x → out ++ all_of (drop i xs) ≡ all → new ≡ out ++ one_of x
    → new ++ all_of (drop (i + 1) xs) ≡ all
put_next all_of one_of first xs i x out new all within at so_far put =
    let here : drop i xs ≡ x ∷ drop (i + 1) xs = drop-cons xs i x within ∙ ap₂ (λ y n. y ∷ drop n xs) (sym at) (sym (add-one i)) in
    ap (λ o. o ++ all_of (drop (i + 1) xs)) put ∙ append_assoc out (one_of x) (all_of (drop (i + 1) xs)) ∙ ap (λ t. out ++ t) (sym (first x (drop (i + 1) xs)))
    ∙ ap (λ ys. out ++ all_of ys) (sym here) ∙ so_far
