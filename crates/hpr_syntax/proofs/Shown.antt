-- The tokens of an expression's canonical text spell the expression.
use Rattle.std.proofs.Common.{◌≡◌, ℕ, zero, suc, ◌+◌, ◌-◌, ◌<◌, ◌≤◌, List, [], ◌∷◌, ◌++◌, Bool, true, false, not, nat_lt, nat_le, ◌==◌, ◌||◌, ◌&&◌, if◌then◌else◌, refl, ap, sym, ◌∙◌, subst, arith}
use Rattle.std.proofs.lemmas.Bool.{leb-false, ltb-false}
use Rattle.std.proofs.lemmas.Bool.Decides.{nat_tests}
use Rattle.hpr_terms.specs.declared.expr.Unary.{Unary}
use Rattle.hpr_terms.specs.declared.expr.Unary.TheVariants.{Neg, Not}
use Rattle.hpr_terms.specs.declared.expr.Binary.{Binary}
use Rattle.hpr_terms.specs.declared.expr.Binary.TheVariants.{Or, And, Equal, Differ, Less, LessEqual, Greater, GreaterEqual, Add, Sub, Mul, Div, Rem}
use Rattle.hpr_terms.specs.declared.keyword.Keyword.TheVariants as keyword
use Rattle.hpr_terms.specs.declared.token.Sign.TheVariants as sign
use Rattle.hpr_terms.specs.declared.token.Token.{Token}
use Rattle.hpr_terms.specs.declared.token.Token.TheVariants.{Word, Name, Number, Mark}
use Rattle.hpr_terms.specs.Names.{is_array, base_of}
use Rattle.hpr_terms.specs.Term.{Term, num, var, prefix, infix', element, operators}
use Rattle.hpr_terms.proofs.Facts.{not_is, or_false}
use Rattle.hpr_terms.proofs.Plain.{array_parts}
use Rattle.hpr_syntax.specs.Grammar as grammar
use Rattle.hpr_syntax.specs.Grammar.{Rule, expr, conj, comp, sum, term, prefixed, atom, On, Joins, Compares, Prefixes, SpellsTerm, one, joined, compared, signed, literal, name, bracket, indexed}
use Rattle.hpr_syntax.specs.Print.{level_of_sign, level_of}
use Rattle.hpr_syntax.specs.Proper.{IsProperTerm}
use Rattle.hpr_syntax.specs.Shape.{names_wrong}

-- ---- tokens

abbrev pub prefix_token : Unary → Token
prefix_token Neg = Mark sign.Minus
prefix_token Not = Word keyword.Not

abbrev pub sign_token : Binary → Token
sign_token Or = Word keyword.Or
sign_token And = Word keyword.And
sign_token Equal = Mark sign.Equal
sign_token Differ = Mark sign.Differ
sign_token Less = Mark sign.Less
sign_token LessEqual = Mark sign.LessEqual
sign_token Greater = Mark sign.Greater
sign_token GreaterEqual = Mark sign.GreaterEqual
sign_token Add = Mark sign.Plus
sign_token Sub = Mark sign.Minus
sign_token Mul = Mark sign.Star
sign_token Div = Mark sign.Slash
sign_token Rem = Mark sign.Percent

abbrev pub in_brackets : Bool → List Token → List Token
in_brackets true ts = Mark sign.Open ∷ (ts ++ (Mark sign.Close ∷ []))
in_brackets false ts = ts

-- whether an operand stands in brackets
abbrev pub operand_test : Term → Bool
operand_test a = nat_lt (level_of a) 6

abbrev pub left_test : Binary → Term → Bool
left_test op a = nat_lt (level_of a) (level_of_sign op) || ((level_of_sign op == 3) && (level_of a == 3))

abbrev pub right_test : Binary → Term → Bool
right_test op b = nat_le (level_of b) (level_of_sign op)

abbrev pub shown : Term → List Token
shown (num n) = Number n ∷ []
shown (var x) = Name x ∷ []
shown (prefix op a) = prefix_token op ∷ in_brackets (operand_test a) (shown a)
shown (infix' op a b) = in_brackets (left_test op a) (shown a) ++ (sign_token op ∷ in_brackets (right_test op b) (shown b))
shown (element x i) = Name (base_of x) ∷ Mark sign.OpenSquare ∷ (shown i ++ (Mark sign.CloseSquare ∷ []))

-- ---- rules and levels

abbrev rank : Rule → ℕ
rank expr = 1
rank conj = 2
rank comp = 3
rank sum = 4
rank term = 5
rank prefixed = 6
rank atom = 7

abbrev rule_at : ℕ → Rule
rule_at n =
    if n == 1 then expr else if n == 2 then conj else if n == 3 then comp else if n == 4 then sum else if n == 5 then term else if n == 6 then prefixed else atom

rule_at_rank : (r : Rule) → rule_at (rank r) ≡ r
rule_at_rank expr = refl
rule_at_rank conj = refl
rule_at_rank comp = refl
rule_at_rank sum = refl
rule_at_rank term = refl
rule_at_rank prefixed = refl
rule_at_rank atom = refl

rank_same : (r s : Rule) → rank r ≡ rank s → r ≡ s
rank_same r s e = sym (rule_at_rank r) ∙ ap rule_at e ∙ rule_at_rank s

rank_high : (r : Rule) → rank r ≤ 7
rank_high expr = omega arith
rank_high conj = omega arith
rank_high comp = omega arith
rank_high sum = omega arith
rank_high term = omega arith
rank_high prefixed = omega arith
rank_high atom = omega arith

rank_low : (r : Rule) → 1 ≤ rank r
rank_low expr = omega arith
rank_low conj = omega arith
rank_low comp = omega arith
rank_low sum = omega arith
rank_low term = omega arith
rank_low prefixed = omega arith
rank_low atom = omega arith

-- what a tight rule derives, a loose one derives too, so many steps away
lower_by : {d : ℕ} {ts : List Token} {x : Term} (k : ℕ) (r s : Rule) → rank s ≡ rank r + k → SpellsTerm s d ts x → SpellsTerm r d ts x
lower_by {d = d} {ts = ts} {x = x} zero r s e h = subst (λ q. SpellsTerm q d ts x) (rank_same s r (omega (arith, e))) h
lower_by (suc k) expr s e h = one grammar.expr_conj (lower_by k conj s (omega (arith, e)) h)
lower_by (suc k) conj s e h = one grammar.conj_comp (lower_by k comp s (omega (arith, e)) h)
lower_by (suc k) comp s e h = one grammar.comp_sum (lower_by k sum s (omega (arith, e)) h)
lower_by (suc k) sum s e h = one grammar.sum_term (lower_by k term s (omega (arith, e)) h)
lower_by (suc k) term s e h = one grammar.term_prefixed (lower_by k prefixed s (omega (arith, e)) h)
lower_by (suc k) prefixed s e h = one grammar.prefixed_atom (lower_by k atom s (omega (arith, e)) h)
lower_by (suc k) atom s e h = absurd (omega (arith, e, rank_high s))

lower : {d : ℕ} {ts : List Token} {x : Term} (r s : Rule) → rank r ≤ rank s → SpellsTerm s d ts x → SpellsTerm r d ts x
lower r s le h = lower_by (rank s - rank r) r s (omega (arith, le)) h

abbrev rule_of_sign : Binary → Rule
rule_of_sign Or = expr
rule_of_sign And = conj
rule_of_sign Equal = comp
rule_of_sign Differ = comp
rule_of_sign Less = comp
rule_of_sign LessEqual = comp
rule_of_sign Greater = comp
rule_of_sign GreaterEqual = comp
rule_of_sign Add = sum
rule_of_sign Sub = sum
rule_of_sign Mul = term
rule_of_sign Div = term
rule_of_sign Rem = term

abbrev rule_of : Term → Rule
rule_of (num n) = atom
rule_of (var x) = atom
rule_of (prefix op a) = prefixed
rule_of (infix' op a b) = rule_of_sign op
rule_of (element x i) = atom

sign_rank : (op : Binary) → rank (rule_of_sign op) ≡ level_of_sign op
sign_rank Or = refl
sign_rank And = refl
sign_rank Equal = refl
sign_rank Differ = refl
sign_rank Less = refl
sign_rank LessEqual = refl
sign_rank Greater = refl
sign_rank GreaterEqual = refl
sign_rank Add = refl
sign_rank Sub = refl
sign_rank Mul = refl
sign_rank Div = refl
sign_rank Rem = refl

level_rank : (x : Term) → rank (rule_of x) ≡ level_of x
level_rank (num n) = refl
level_rank (var x) = refl
level_rank (prefix op a) = refl
level_rank (infix' op a b) = sign_rank op
level_rank (element x i) = refl

-- ---- expressions

-- Each bracket stands around the operand of an operator, or around the index of an element: so there are at most as many as operators.
Shown : Term → Type 0
Shown x = (d : ℕ) → operators x ≤ d → SpellsTerm (rule_of x) d (shown x) x

operand_shown : (x : Term) (r : Rule) (d : ℕ) (b : Bool) → (b ≡ false → rank r ≤ level_of x) → operators x + 1 ≤ d → Shown x
    → SpellsTerm r d (in_brackets b (shown x)) x
unfolding Shown
operand_shown x r d false bf fits s = lower r (rule_of x) (omega (arith, level_rank x, bf refl)) (s d (omega (arith, fits)))
operand_shown x r zero true bf fits s = absurd (omega (arith, fits))
operand_shown x r (suc d) true bf fits s =
    lower r atom (rank_high r) (bracket (lower expr (rule_of x) (rank_low (rule_of x)) (s d (omega (arith, fits)))))

left_false : (l m : ℕ) → (nat_lt l m || ((m == 3) && (l == 3))) ≡ false → m ≤ l
left_false l m e = grind (arith, nat_tests)

compared_false : (l m : ℕ) → m ≡ 3 → (nat_lt l m || ((m == 3) && (l == 3))) ≡ false → 4 ≤ l
compared_false l m is e = grind (arith, nat_tests)

right_false : (l m : ℕ) → nat_le l m ≡ false → m + 1 ≤ l
right_false l m e = let h : m < l = leb-false l m e in omega (arith, h)

left_shown : (op : Binary) (a : Term) (r : Rule) (d : ℕ) → rank r ≤ level_of_sign op → operators a + 1 ≤ d → Shown a → SpellsTerm r d (in_brackets (left_test op a) (shown a)) a
left_shown op a r d le fits s =
    operand_shown a r d (left_test op a)
    (λ e. let h : level_of_sign op ≤ level_of a = left_false (level_of a) (level_of_sign op) e in omega (arith, h, le)) fits s

compared_shown : (op : Binary) (a : Term) (d : ℕ) → level_of_sign op ≡ 3 → operators a + 1 ≤ d → Shown a → SpellsTerm sum d (in_brackets (left_test op a) (shown a)) a
compared_shown op a d is fits s = operand_shown a sum d (left_test op a) (compared_false (level_of a) (level_of_sign op) is) fits s

right_shown : (op : Binary) (b : Term) (r : Rule) (d : ℕ) → rank r ≤ level_of_sign op + 1 → operators b + 1 ≤ d → Shown b → SpellsTerm r d (in_brackets (right_test op b) (shown b)) b
right_shown op b r d le fits s =
    operand_shown b r d (right_test op b)
    (λ e. let h : level_of_sign op + 1 ≤ level_of b = right_false (level_of b) (level_of_sign op) e in omega (arith, h, le)) fits s

-- an operator that groups to the left
joined_shown : (op : Binary) (r s : Rule) (a b : Term) (d : ℕ) → On r s → Joins r (sign_token op) op → rank r ≤ level_of_sign op → rank s ≤ level_of_sign op + 1
    → operators a + operators b + 1 ≤ d → Shown a → Shown b → SpellsTerm r d (shown (infix' op a b)) (infix' op a b)
joined_shown op r s a b d on joins low high fits sa sb =
    joined on joins (left_shown op a r d low (omega (arith, fits)) sa) (right_shown op b s d high (omega (arith, fits)) sb)

compare_shown : (op : Binary) (a b : Term) (d : ℕ) → Compares (sign_token op) op → level_of_sign op ≡ 3 → operators a + operators b + 1 ≤ d → Shown a → Shown b
    → SpellsTerm comp d (shown (infix' op a b)) (infix' op a b)
compare_shown op a b d compares is fits sa sb =
    compared compares (compared_shown op a d is (omega (arith, fits)) sa) (right_shown op b sum d (omega (arith, is)) (omega (arith, fits)) sb)

infix_shown : (op : Binary) (a b : Term) → Shown a → Shown b → Shown (infix' op a b)
unfolding Shown
infix_shown Or a b sa sb d fits = joined_shown Or expr conj a b d grammar.expr_conj grammar.or (omega arith) (omega arith) fits sa sb
infix_shown And a b sa sb d fits = joined_shown And conj comp a b d grammar.conj_comp grammar.and (omega arith) (omega arith) fits sa sb
infix_shown Equal a b sa sb d fits = compare_shown Equal a b d grammar.equal refl fits sa sb
infix_shown Differ a b sa sb d fits = compare_shown Differ a b d grammar.differ refl fits sa sb
infix_shown Less a b sa sb d fits = compare_shown Less a b d grammar.less refl fits sa sb
infix_shown LessEqual a b sa sb d fits = compare_shown LessEqual a b d grammar.less_equal refl fits sa sb
infix_shown Greater a b sa sb d fits = compare_shown Greater a b d grammar.greater refl fits sa sb
infix_shown GreaterEqual a b sa sb d fits = compare_shown GreaterEqual a b d grammar.greater_equal refl fits sa sb
infix_shown Add a b sa sb d fits = joined_shown Add sum term a b d grammar.sum_term grammar.plus (omega arith) (omega arith) fits sa sb
infix_shown Sub a b sa sb d fits = joined_shown Sub sum term a b d grammar.sum_term grammar.Joins.minus (omega arith) (omega arith) fits sa sb
infix_shown Mul a b sa sb d fits = joined_shown Mul term prefixed a b d grammar.term_prefixed grammar.star (omega arith) (omega arith) fits sa sb
infix_shown Div a b sa sb d fits = joined_shown Div term prefixed a b d grammar.term_prefixed grammar.slash (omega arith) (omega arith) fits sa sb
infix_shown Rem a b sa sb d fits = joined_shown Rem term prefixed a b d grammar.term_prefixed grammar.percent (omega arith) (omega arith) fits sa sb

prefixes : (op : Unary) → Prefixes (prefix_token op) op
prefixes Neg = grammar.Prefixes.minus
prefixes Not = grammar.not

-- an element of an array
element_shown : (x : List ℕ) (i : Term) → is_array x ≡ true → Shown i → Shown (element x i)
unfolding Shown
element_shown x i is s zero fits = absurd (omega (arith, fits))
element_shown x i is s (suc d) fits =
    let Told : List ℕ → Type 0 = λ y. SpellsTerm atom (suc d) (shown (element x i)) (element y i) in
    subst Told (sym (array_parts x is).0) (indexed (array_parts x is).1 (lower expr (rule_of i) (rank_low (rule_of i)) (s d (omega (arith, fits)))))

term_shown : (x : Term) → IsProperTerm x → names_wrong x ≡ false → Shown x
unfolding Shown
term_shown (num n) h f d fits = literal h
term_shown (var x) h f d fits = name
term_shown (prefix op a) h f d fits =
    signed (prefixes op)
    (operand_shown a prefixed d (operand_test a) (λ e. ltb-false (level_of a) 6 e) (omega (arith, fits)) (term_shown a h f))
term_shown (infix' op a b) h f d fits =
    let both = or_false (names_wrong a) (names_wrong b) f in
    infix_shown op a b (term_shown a h.0 both.0) (term_shown b h.1 both.1) d fits
term_shown (element x i) h f d fits =
    let both = or_false (not (is_array x)) (names_wrong i) f in
    element_shown x i (not_is (is_array x) both.0) (term_shown i h.1 both.1) d fits

-- a whole expression
pub expr_shown : (x : Term) (d : ℕ) → IsProperTerm x → names_wrong x ≡ false → operators x ≤ d → SpellsTerm expr d (shown x) x
unfolding Shown
expr_shown x d h f fits = lower expr (rule_of x) (rank_low (rule_of x)) (term_shown x h f d fits)
