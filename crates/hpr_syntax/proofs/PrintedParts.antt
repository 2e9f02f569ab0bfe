-- The bytes of a block's canonical text are its tokens.
use Rattle.std.proofs.Common.{◌≡◌, ℕ, ◌+◌, List, [], ◌∷◌, ◌++◌, Bool, true, false, not, ◌||◌, None, if◌then◌else◌, codes, subst, append_assoc}
use Rattle.std.specs.Fmt.{decimal}
use Rattle.hpr_terms.specs.declared.tag.Tag.{Tag}
use Rattle.hpr_terms.specs.declared.keyword.Keyword.{Keyword}
use Rattle.hpr_terms.specs.declared.keyword.Keyword.TheVariants as keyword
use Rattle.hpr_terms.specs.declared.token.Sign.TheVariants as sign
use Rattle.hpr_terms.specs.declared.token.Token.{Token}
use Rattle.hpr_terms.specs.declared.token.Token.TheVariants.{Word, Name, Mark}
use Rattle.hpr_terms.specs.Keywords.{keyword_text}
use Rattle.hpr_terms.specs.Names.{IsName, is_name, is_stream, is_array, base_of}
use Rattle.hpr_terms.specs.Tokens.{Text}
use Rattle.hpr_terms.specs.TermOf.{term_of}
use Rattle.hpr_terms.specs.Texts.{tag_text}
use Rattle.hpr_terms.proofs.Facts.{not_is, or_false}
use Rattle.hpr_syntax.specs.Action.{assigns, writes, stores}
use Rattle.hpr_syntax.specs.Body.{Body, done, action, branch, loop}
use Rattle.hpr_syntax.specs.Print.{element_text, term_text, line, is_done, else_text, body_text}
use Rattle.hpr_syntax.specs.Shape.{names_wrong, is_wrong, first_where}
use Rattle.hpr_syntax.proofs.NoRefusal.{none_in_action, none_in_branch, none_in_loop}
use Rattle.hpr_syntax.proofs.Printed.{Printed, weaker, space, newline, indented, mark, word, number, name, element_before, term_is}
use Rattle.hpr_syntax.proofs.ShownParts.{label, shown_expr, shown_else, shown_body}

-- a tag and its colon
label_is : (t : Tag) (rest : List ℕ) (ts : List Token) → Text false rest ts
    → Text false (decimal t.author ++ (codes "." ++ (decimal t.serial ++ (codes ": " ++ rest)))) (label t ++ ts)
label_is t rest ts h = number t.author _ _ (mark sign.Dot _ _ (number t.serial _ _ (mark sign.Colon _ _ (weaker (space rest ts h)))))

-- the line of an assignment, before other lines
assign_line : (n : ℕ) (t : Tag) (x value more : List ℕ) (tokens us : List Token) → IsName x → Printed false true value tokens → Printed false false more us
    → Printed false false (line n (tag_text t ++ codes ": " ++ x ++ codes " := " ++ value ++ codes ";") ++ more)
    (label t ++ (Name x ∷ Mark sign.Becomes ∷ (tokens ++ (Mark sign.Semicolon ∷ us))))
unfolding tag_text
assign_line n t x value more tokens us h p q rest ts k =
    simp append_assoc
    (indented n _ _
    (label_is t _ _ (name x h _ _ (space _ _ (weaker (mark sign.Becomes _ _ (weaker (space _ _ (p _ _ (mark sign.Semicolon _ _ (weaker (newline _ _ (q rest ts k)))))))))))))

-- the line that a part with blocks begins with, before other lines
first_line : (n : ℕ) (t : Tag) (value more : List ℕ) (tokens us : List Token) (opening closing : Keyword) → Printed false true value tokens → Printed false false more us
    → Printed false false (line n (tag_text t ++ (codes ": " ++ (keyword_text opening ++ codes " ")) ++ value ++ (codes " " ++ keyword_text closing)) ++ more)
    (label t ++ (Word opening ∷ (tokens ++ (Word closing ∷ us))))
unfolding tag_text
first_line n t value more tokens us opening closing p q rest ts k =
    simp append_assoc
    (indented n _ _ (label_is t _ _ (word opening _ _ (space _ _ (p _ _ (space _ _ (word closing _ _ (newline _ _ (q rest ts k)))))))))

-- a line of one keyword, before other lines
word_line : (n : ℕ) (k : Keyword) (more : List ℕ) (us : List Token) → Printed false false more us → Printed false false (line n (keyword_text k) ++ more) (Word k ∷ us)
word_line n k more us q rest ts h = simp append_assoc (indented n _ _ (word k _ _ (newline _ _ (q rest ts h))))

-- `else` and the second block
else_if : (n : ℕ) (b : Bool) (second : List ℕ) (tokens : List Token) → Printed false false second tokens
    → Printed false false (if b then [] else (line n (codes "else") ++ second)) (if b then [] else (Word keyword.Else ∷ tokens))
else_if n true second tokens p = λ rest ts h. h
else_if n false second tokens p = word_line n keyword.Else second tokens p

-- two pieces, and then others
both : (a b : List ℕ) (s t : List Token) → Printed false false a s → Printed false false b t → Printed false false (a ++ b) (s ++ t)
both a b s t p q rest ts h = simp append_assoc (p _ _ (q rest ts h))

-- the same bytes in other brackets
four : (a b c d : List ℕ) (ts : List Token) → Printed false false (a ++ (b ++ (c ++ d))) ts → Printed false false (a ++ b ++ c ++ d) ts
four a b c d ts p =
    let e : a ++ (b ++ (c ++ d)) ≡ a ++ b ++ c ++ d = simp append_assoc in
    subst (λ x. Printed false false x ts) e p

five : (a b c d f : List ℕ) (ts : List Token) → Printed false false (a ++ (b ++ (c ++ (d ++ f)))) ts → Printed false false (a ++ b ++ c ++ d ++ f) ts
five a b c d f ts p =
    let e : a ++ (b ++ (c ++ (d ++ f))) ≡ a ++ b ++ c ++ d ++ f = simp append_assoc in
    subst (λ x. Printed false false x ts) e p

-- the line of a write, before other lines
write_line : (n : ℕ) (t : Tag) (value more : List ℕ) (tokens us : List Token) → Printed false true value tokens → Printed false false more us
    → Printed false false (line n (tag_text t ++ codes ": write " ++ value ++ codes ";") ++ more)
    (label t ++ (Word keyword.Write ∷ (tokens ++ (Mark sign.Semicolon ∷ us))))
unfolding tag_text
write_line n t value more tokens us p q rest ts k =
    simp append_assoc
    (indented n _ _
    (label_is t _ _ (word keyword.Write _ _ (space _ _ (p _ _ (mark sign.Semicolon _ _ (weaker (newline _ _ (q rest ts k)))))))))

-- the line of a store, before other lines
store_line : (n : ℕ) (t : Tag) (x index value more : List ℕ) (is ts us : List Token) → is_array x ≡ true → Printed false true index is → Printed false true value ts
    → Printed false false more us
    → Printed false false (line n (tag_text t ++ codes ": " ++ element_text x index ++ codes " := " ++ value ++ codes ";") ++ more)
    (label t ++ (Name (base_of x) ∷ Mark sign.OpenSquare ∷ (is ++ (Mark sign.CloseSquare ∷ Mark sign.Becomes ∷ (ts ++ (Mark sign.Semicolon ∷ us))))))
unfolding tag_text
store_line n t x index value more is ts us array i p q rest vs k =
    simp append_assoc
    (indented n _ _
    (label_is t _ _
    (element_before x index is array i _ _ (weaker (space _ _ (weaker (mark sign.Becomes _ _ (weaker (space _ _ (p _ _ (mark sign.Semicolon _ _ (weaker (newline _ _ (q rest vs k))))))))))))))

pub body_is : (n : ℕ) (body : Body) → first_where is_wrong body ≡ None → Printed false false (body_text n body) (shown_body body)
unfolding body_text
body_is n done f = λ rest ts k. k
body_is n (action t (assigns x e) rest) f =
    let g = none_in_action is_wrong t (assigns x e) rest f in
    let names = or_false (not (is_name x)) (names_wrong (term_of e)) g.0 in
    assign_line n t x (term_text (term_of e)) (body_text n rest) (shown_expr e) (shown_body rest) (not_is (is_name x) names.0) (term_is (term_of e) names.1) (body_is n rest g.1)
body_is n (action t (writes x e) rest) f =
    let g = none_in_action is_wrong t (writes x e) rest f in
    let names = or_false (not (is_stream x)) (names_wrong (term_of e)) g.0 in
    write_line n t (term_text (term_of e)) (body_text n rest) (shown_expr e) (shown_body rest) (term_is (term_of e) names.1) (body_is n rest g.1)
body_is n (action t (stores x i e) rest) f =
    let g = none_in_action is_wrong t (stores x i e) rest f in
    let last = or_false (not (is_array x) || names_wrong (term_of i)) (names_wrong (term_of e)) g.0 in
    let names = or_false (not (is_array x)) (names_wrong (term_of i)) last.0 in
    store_line n t x (term_text (term_of i)) (term_text (term_of e)) (body_text n rest) (shown_expr i) (shown_expr e) (shown_body rest)
    (not_is (is_array x) names.0) (term_is (term_of i) names.1) (term_is (term_of e) last.1) (body_is n rest g.1)
body_is n (branch t e a b rest) f =
    let g = none_in_branch is_wrong t e a b rest f in
    let test : List ℕ = term_text (term_of e) in
    let first : List ℕ = body_text (n + 1) a in
    let second : List ℕ = else_text n b (body_text (n + 1) b) in
    let last : List ℕ = line n (codes "fi") ++ body_text n rest in
    let last_tokens : List Token = Word keyword.Fi ∷ shown_body rest in
    let second_tokens : List Token = shown_else b (shown_body b) in
    five (line n (tag_text t ++ codes ": if " ++ test ++ codes " then")) first second (line n (codes "fi")) (body_text n rest) (shown_body (branch t e a b rest))
    (first_line n t test (first ++ (second ++ last)) (shown_expr e) (shown_body a ++ (second_tokens ++ last_tokens)) keyword.If keyword.Then (term_is (term_of e) g.0)
    (both first (second ++ last) (shown_body a) (second_tokens ++ last_tokens) (body_is (n + 1) a g.1)
    (both second last second_tokens last_tokens (else_if n (is_done b) (body_text (n + 1) b) (shown_body b) (body_is (n + 1) b g.2))
    (word_line n keyword.Fi (body_text n rest) (shown_body rest) (body_is n rest g.3)))))
body_is n (loop t e b rest) f =
    let g = none_in_loop is_wrong t e b rest f in
    let test : List ℕ = term_text (term_of e) in
    let inner : List ℕ = body_text (n + 1) b in
    let last : List ℕ = line n (codes "od") ++ body_text n rest in
    let last_tokens : List Token = Word keyword.Od ∷ shown_body rest in
    four (line n (tag_text t ++ codes ": while " ++ test ++ codes " do")) inner (line n (codes "od")) (body_text n rest) (shown_body (loop t e b rest))
    (first_line n t test (inner ++ last) (shown_expr e) (shown_body b ++ last_tokens) keyword.While keyword.Do (term_is (term_of e) g.0)
    (both inner last (shown_body b) last_tokens (body_is (n + 1) b g.1) (word_line n keyword.Od (body_text n rest) (shown_body rest) (body_is n rest g.2))))
