-- What is drawn is small, and the names are names.
use Rattle.std.proofs.Common.{◌≡◌, ℕ, zero, suc, ◌+◌, ◌<◌, List, [], ◌∷◌, ◌++◌, take, codes, refl, arith, subst, sym}
use Rattle.hpr_terms.specs.Keywords.{keyword_of}
use Rattle.hpr_terms.specs.Names.{IsName, IsVariable, is_name, is_name_byte, is_name_like}
use Rattle.hpr_terms.proofs.Plain.{name_is_variable}
use Rattle.hpr_sample.specs.Draws.{draw, variable_name}
use Rattle.hpr_sample.specs.Sample.{variable_names}

pub draw_below : (n words : ℕ) → 0 < n → (draw n words).made < n
unfolding draw
draw_below n words h = omega arith

pub variable_is_name : (n : ℕ) → n < 8 → IsName (variable_name n)
unfolding is_name is_name_like is_name_byte keyword_of
variable_is_name zero h = refl
variable_is_name (suc zero) h = refl
variable_is_name (suc (suc zero)) h = refl
variable_is_name (suc (suc (suc zero))) h = refl
variable_is_name (suc (suc (suc (suc zero)))) h = refl
variable_is_name (suc (suc (suc (suc (suc zero))))) h = refl
variable_is_name (suc (suc (suc (suc (suc (suc zero)))))) h = refl
variable_is_name (suc (suc (suc (suc (suc (suc (suc zero))))))) h = refl
variable_is_name (suc (suc (suc (suc (suc (suc (suc (suc n)))))))) h = absurd (omega (arith, h))

pub text_is_name : (text : List ℕ) (digit : ℕ) → text ≡ variable_name digit → digit < 8 → IsName text
text_is_name text digit is h = subst (λ (x : List ℕ). IsName x) (sym is) (variable_is_name digit h)

pub drawn_is_name : (words : ℕ) → IsName (variable_name (draw 8 words).made)
drawn_is_name words = variable_is_name (draw 8 words).made (draw_below 8 words (omega arith))

pub a_is_name : IsName (codes "a")
unfolding is_name is_name_like is_name_byte keyword_of
a_is_name = refl

pub b_is_name : IsName (codes "b")
unfolding is_name is_name_like is_name_byte keyword_of
b_is_name = refl

pub c_is_name : IsName (codes "c")
unfolding is_name is_name_like is_name_byte keyword_of
c_is_name = refl

pub drawn_is_variable : (words : ℕ) → IsVariable (variable_name (draw 8 words).made)
drawn_is_variable words = name_is_variable (variable_name (draw 8 words).made) (drawn_is_name words)

pub c_is_variable : IsVariable (codes "c")
c_is_variable = name_is_variable (codes "c") c_is_name

-- the variables one by one
pub names_more : (n : ℕ) → n < 8 → take (n + 1) variable_names ≡ take n variable_names ++ variable_name n ∷ []
names_more zero h = refl
names_more (suc zero) h = refl
names_more (suc (suc zero)) h = refl
names_more (suc (suc (suc zero))) h = refl
names_more (suc (suc (suc (suc zero)))) h = refl
names_more (suc (suc (suc (suc (suc zero))))) h = refl
names_more (suc (suc (suc (suc (suc (suc zero)))))) h = refl
names_more (suc (suc (suc (suc (suc (suc (suc zero))))))) h = refl
names_more (suc (suc (suc (suc (suc (suc (suc (suc n)))))))) h = absurd (omega (arith, h))
