-- Where a text that ends with `;` has no shorter front that does, its last byte is that sign.
use Rattle.std.proofs.Common.{◌≡◌, ℕ, suc, ◌+◌, ◌<◌, ◌≤◌, ltb, Bool, true, false, List, [], ◌∷◌, ◌++◌, length, length-append, take, get_or, refl, sym, ap, subst, ◌∙◌, append_assoc, arith}
use Rattle.std.proofs.Math.Seq.{get_or-append_seam}
use Rattle.std.proofs.lemmas.Bool.{ltb-true}
use Rattle.std.proofs.lemmas.Bool.Decides.{nat_tests}
use Rattle.std.proofs.lemmas.List.{length-take-le, take-take, take_at, get_or-take}
use Rattle.hpr_terms.specs.declared.token.Sign.TheVariants.{Semicolon}
use Rattle.hpr_terms.specs.declared.token.Token.{Token}
use Rattle.hpr_terms.specs.declared.token.Token.TheVariants.{Mark}
use Rattle.hpr_terms.specs.Tokens.{nothing, Text, ending, token}
use Rattle.hpr_terms.specs.Tokens as tokens
use Rattle.hpr_text.specs.Contents.{HasContent}

-- 59 is `;`
record EndsWithSign (w : Bool) (bytes : List ℕ) (ts : List Token) : Type 0 where
  front : List ℕ
  rest : List ℕ
  whole : bytes ≡ front ++ (59 ∷ rest)
  text : Text w (front ++ (59 ∷ [])) (ts ++ (Mark Semicolon ∷ []))

regroup : (gap word front rest : List ℕ) → (gap ++ (word ++ front)) ++ rest ≡ gap ++ (word ++ (front ++ rest))
regroup gap word front rest = append_assoc gap (word ++ front) rest ∙ ap (λ x. gap ++ x) (append_assoc word front rest)

last_sign : (ts : List Token) {w : Bool} {bytes : List ℕ} → Text w bytes (ts ++ (Mark Semicolon ∷ [])) → EndsWithSign w bytes ts
last_sign [] (token gap word {rest = rest} b it apart more) = record {
  front = gap;
  rest = rest;
  whole = ap (λ x. gap ++ (x ++ rest)) it;
  text = token gap (59 ∷ []) b refl apart (ending (tokens.blanks nothing));
}
last_sign (t ∷ ts) {w = w} (token gap word {rest = rest} b it apart more) =
    let k = last_sign ts more in
    record {
      front = gap ++ (word ++ k.front);
      rest = k.rest;
      whole = ap (λ x. gap ++ (word ++ x)) k.whole ∙ sym (regroup gap word k.front (59 ∷ k.rest));
      text = subst (λ (x : List ℕ). Text w x (t ∷ (ts ++ (Mark Semicolon ∷ [])))) (sym (regroup gap word k.front (59 ∷ []))) (token gap word b it apart k.text);
    }

seam : (front rest : List ℕ) (n : ℕ) → n ≡ length front + 1 → take n (front ++ (59 ∷ rest)) ≡ front ++ (59 ∷ [])
seam front rest n e = ap (take n) (sym (append_assoc front (59 ∷ []) rest)) ∙ take_at (front ++ (59 ∷ [])) rest n (omega (arith, length-append front (59 ∷ [])))

-- a content is not read past its `;`
pub last_is_sign : (bytes : List ℕ) (at : ℕ) → at < length bytes → HasContent (take (at + 1) bytes) → ((n : ℕ) → n ≤ at → HasContent (take n bytes) → ⊥) → get_or bytes at 0 ≡ 59
last_is_sign bytes at lt (c, h) go = at_front (ltb (length k.front) at) refl
  where
    k : EndsWithSign false (take (at + 1) bytes) h.tokens
    k = last_sign h.tokens h.text

    count : length k.front + suc (length k.rest) ≡ at + 1
    count = sym (length-append k.front (59 ∷ k.rest)) ∙ ap length (sym k.whole) ∙ length-take-le (at + 1) bytes (omega (arith, lt))

    shorter : HasContent (k.front ++ (59 ∷ []))
    shorter = (c, record { tokens = h.tokens; spelled = h.spelled; text = k.text })

    front_is : length k.front < at → take (length k.front + 1) bytes ≡ k.front ++ (59 ∷ [])
    front_is less =
        sym (take-take (length k.front + 1) (at + 1) bytes (omega (arith, less))) ∙ ap (take (length k.front + 1)) k.whole ∙ seam k.front k.rest (length k.front + 1) refl

    byte_is : length k.front ≡ at → get_or bytes at 0 ≡ 59
    byte_is e =
        sym (get_or-take (at + 1) bytes at 0 (omega arith)) ∙ ap (λ (x : List ℕ). get_or x at 0) k.whole
        ∙ ap (λ (n : ℕ). get_or (k.front ++ (59 ∷ k.rest)) n 0) (sym e) ∙ get_or-append_seam k.front 59 k.rest 0

    at_front : (b : Bool) → ltb (length k.front) at ≡ b → get_or bytes at 0 ≡ 59
    at_front true e =
        let less : length k.front < at = ltb-true (length k.front) at e in
        absurd (go (length k.front + 1) (omega (arith, less)) (subst HasContent (sym (front_is less)) shorter))
    at_front false e =
        let least : at ≤ length k.front = grind (arith, nat_tests) in
        byte_is (omega (arith, least, count))
