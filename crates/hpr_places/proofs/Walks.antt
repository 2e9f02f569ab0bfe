-- The walk along the tree finds each part of a block where its tokens stand.
use Rattle.std.proofs.Common.{◌≡◌, ℕ, suc, ◌+◌, List, [], ◌∷◌, ◌++◌, drop, Bool, true, false, refl, sym, ap, subst, ◌∙◌, append_assoc}
use Rattle.hpr_terms.specs.declared.limits.TheConstants.{MAX_BRACKETS}
use Rattle.hpr_terms.specs.declared.tag.Tag.{Tag}
use Rattle.hpr_terms.specs.declared.expr.Expr.{Expr}
use Rattle.hpr_terms.specs.declared.keyword.Keyword.TheVariants as keyword
use Rattle.hpr_terms.specs.declared.token.Sign.TheVariants as sign
use Rattle.hpr_terms.specs.declared.token.Token.{Token}
use Rattle.hpr_terms.specs.declared.token.Token.TheVariants.{Word, Name, Number, Mark}
use Rattle.hpr_terms.specs.Names.{array_of, stream}
use Rattle.hpr_terms.specs.TermOf.{term_of}
use Rattle.hpr_terms.specs.Tokens.{Text}
use Rattle.hpr_syntax.specs.Action.{Action, assigns, writes, stores}
use Rattle.hpr_syntax.specs.Body.{Body, done, action, branch, loop}
use Rattle.hpr_syntax.specs.Grammar as grammar
use Rattle.hpr_syntax.specs.Grammar.{tagged, expr, Labels, SpellsParts}
use Rattle.hpr_scan.proofs.Words.{IsSmall}
use Rattle.hpr_places.specs.Places.{Part, parts_of}
use Rattle.hpr_places.specs.Private.Walk.{skip, opened, closed, Walked, stop, then_on, close, whole, if_else, walk}
use Rattle.hpr_places.proofs.Content.{is_closer}
use Rattle.hpr_places.proofs.Cut.{Next, next_token, closed_is, AllPass, Said, said}
use Rattle.hpr_places.proofs.Found.{Found, found_none, found_as, found_then, found_close, found_whole, no_else, found_else, all_append, term_pass, label_pass}

-- ---- the equations of the walk

walk_done : (bytes : List ℕ) (n : ℕ) → stop n ≡ walk bytes done n
unfolding walk
walk_done bytes n = refl

walk_action : (bytes : List ℕ) (n : ℕ) (t : Tag) (d : Action) (rest : Body) → then_on (whole t (skip bytes n) (stop (opened bytes n))) (walk bytes rest) ≡ walk bytes (action t d rest) n
unfolding walk
walk_action bytes n t d rest = refl

walk_branch : (bytes : List ℕ) (n : ℕ) (t : Tag) (e : Expr) (sure never rest : Body)
    → then_on (whole t (skip bytes n) (close bytes (then_on (walk bytes sure (opened bytes n)) (if_else bytes (walk bytes never))))) (walk bytes rest)
    ≡ walk bytes (branch t e sure never rest) n
unfolding walk
walk_branch bytes n t e sure never rest = refl

walk_loop : (bytes : List ℕ) (n : ℕ) (t : Tag) (e : Expr) (body rest : Body)
    → then_on (whole t (skip bytes n) (close bytes (walk bytes body (opened bytes n)))) (walk bytes rest) ≡ walk bytes (loop t e body rest) n
unfolding walk
walk_loop bytes n t e body rest = refl

-- ---- a part, and those behind it

-- what a part says, up to the byte where its blocks begin or it ends
opened_said : (bytes : List ℕ) (w : Bool) (n : ℕ) (c : List Token) (z : Token) (us : List Token) → AllPass c → IsSmall z × (is_closer z ≡ true) → Text w (drop n bytes) (c ++ (z ∷ us))
    → Said bytes w n c z (opened bytes n) us
opened_said bytes w n c z us p closes x =
    let s = said bytes w n c z us p closes.1 closes.0 x in
    subst (λ m. Said bytes w n c z m us) (sym s.1.opens) s.1

-- a part that has no blocks
pub one_action : (bytes : List ℕ) (w : Bool) (n : ℕ) (c : List Token) (us : List Token) (t : Tag) (d : Action) (l b k : ℕ) → AllPass c
    → Text w (drop n bytes) (c ++ (Mark sign.Semicolon ∷ us)) → SpellsParts tagged l b k (c ++ (Mark sign.Semicolon ∷ [])) (action t d done)
    → Found bytes w n (c ++ (Mark sign.Semicolon ∷ [])) (record { tag = t; alone = action t d done } ∷ []) (whole t (skip bytes n) (stop (opened bytes n))) us
one_action bytes w n c us t d l b k p x spelled =
    let z = Mark sign.Semicolon in
    let s = opened_said bytes w n c z us p (tt, refl) x in
    found_whole bytes w n c z [] us us t (action t d done) [] (stop (opened bytes n)) l b k s (found_none bytes false (opened bytes n) us s.more) spelled

-- the part, and then the block's other parts
and_rest : (bytes : List ℕ) (w : Bool) (n : ℕ) (ts more ss us : List Token) (ps : List Part) (a : Walked) (rest : Body) (b : Walked)
    → (x : Found bytes w n ts ps a (more ++ us)) → Found bytes x.cut.word a.end more (parts_of rest) (walk bytes rest a.end) us → ts ++ more ≡ ss → then_on a (walk bytes rest) ≡ b
    → Found bytes w n ss (ps ++ parts_of rest) b us
and_rest bytes w n ts more ss us ps a rest b x y same e =
    found_as bytes w n (ts ++ more) ss (ps ++ parts_of rest) (then_on a (walk bytes rest)) b us (found_then bytes w n ts more us ps (parts_of rest) a (walk bytes rest) x y) same e

-- the tokens behind `else`
after_else : (bytes : List ℕ) (w : Bool) (n : ℕ) (us : List Token) → Next bytes w n (Word keyword.Else) us → Text true (drop (closed bytes n) bytes) us
after_else bytes w n us x = subst (λ m. Text true (drop m bytes) us) (sym (closed_is bytes w n (Word keyword.Else) us x refl tt)) x.more

pub walks : (l b k : ℕ) (ts : List Token) (body : Body) → SpellsParts tagged l b k ts body → (bytes : List ℕ) (w : Bool) (n : ℕ) (us : List Token) → Text w (drop n bytes) (ts ++ us)
    → Found bytes w n ts (parts_of body) (walk bytes body n) us
walks l b k _ _ grammar.nothing bytes w n us x =
    found_as bytes w n [] [] [] (stop n) (walk bytes done n) us (found_none bytes w n us x) refl (walk_done bytes n)
walks _ b m _ _ (grammar.assignment {l = l} {x = y} {e = e} {value = value} {more = more} {rest = rest} (grammar.tag {t = t} h) v r) bytes w n us x =
    let c = Number t.author ∷ Mark sign.Dot ∷ Number t.serial ∷ Mark sign.Colon ∷ Name y ∷ Mark sign.Becomes ∷ value in
    let z = Mark sign.Semicolon in
    let p = label_pass t (Name y ∷ Mark sign.Becomes ∷ value) h ((tt, refl), ((tt, refl), term_pass expr MAX_BRACKETS value (term_of e) v.0)) in
    let same : (c ++ (z ∷ more)) ++ us ≡ c ++ (z ∷ (more ++ us)) = append_assoc c (z ∷ more) us in
    let one = one_action bytes w n c (more ++ us) t (assigns y e) (suc l) b (b + 1) p (subst (Text w (drop n bytes)) same x) (grammar.assignment {l = l} (grammar.tag h) v grammar.nothing) in
    let on = walks _ _ _ more rest r bytes one.cut.word (opened bytes n) us one.cut.more in
    and_rest bytes w n (c ++ (z ∷ [])) more (c ++ (z ∷ more)) us _ _ rest (walk bytes (action t (assigns y e) rest) n) one on (append_assoc c (z ∷ []) more)
    (walk_action bytes n t (assigns y e) rest)
walks _ b m _ _ (grammar.write {l = l} {e = e} {value = value} {more = more} {rest = rest} (grammar.tag {t = t} h) v r) bytes w n us x =
    let c = Number t.author ∷ Mark sign.Dot ∷ Number t.serial ∷ Mark sign.Colon ∷ Word keyword.Write ∷ value in
    let z = Mark sign.Semicolon in
    let p = label_pass t (Word keyword.Write ∷ value) h ((tt, refl), term_pass expr MAX_BRACKETS value (term_of e) v.0) in
    let same : (c ++ (z ∷ more)) ++ us ≡ c ++ (z ∷ (more ++ us)) = append_assoc c (z ∷ more) us in
    let one = one_action bytes w n c (more ++ us) t (writes stream e) (suc l) b (b + 1) p (subst (Text w (drop n bytes)) same x) (grammar.write {l = l} (grammar.tag h) v grammar.nothing) in
    let on = walks _ _ _ more rest r bytes one.cut.word (opened bytes n) us one.cut.more in
    and_rest bytes w n (c ++ (z ∷ [])) more (c ++ (z ∷ more)) us _ _ rest (walk bytes (action t (writes stream e) rest) n) one on (append_assoc c (z ∷ []) more)
    (walk_action bytes n t (writes stream e) rest)
walks _ b m _ _ (grammar.store {l = l} y {i = i} {e = e} {index = index} {value = value} {more = more} {rest = rest} named (grammar.tag {t = t} h) v r) bytes w n us x =
    let inner = Mark sign.CloseSquare ∷ Mark sign.Becomes ∷ value in
    let front = Number t.author ∷ Mark sign.Dot ∷ Number t.serial ∷ Mark sign.Colon ∷ Name y ∷ Mark sign.OpenSquare ∷ index in
    let c = front ++ inner in
    let z = Mark sign.Semicolon in
    let ps = all_append index inner (term_pass expr MAX_BRACKETS index (term_of i) v.0) ((tt, refl), ((tt, refl), term_pass expr MAX_BRACKETS value (term_of e) v.1)) in
    let p = label_pass t (Name y ∷ Mark sign.OpenSquare ∷ (index ++ inner)) h ((tt, refl), ((tt, refl), ps)) in
    let split : (ts : List Token) → c ++ ts ≡ front ++ (inner ++ ts) = λ (ts : List Token). append_assoc front inner ts in
    let same : (front ++ (inner ++ (z ∷ more))) ++ us ≡ c ++ (z ∷ (more ++ us)) = ap (λ ts. ts ++ us) (sym (split (z ∷ more))) ∙ append_assoc c (z ∷ more) us in
    let spelled = subst (λ ts. SpellsParts tagged (suc l) b (b + 1) ts (action t (stores (array_of y) i e) done)) (sym (split (z ∷ []))) (grammar.store {l = l} y named (grammar.tag h) v grammar.nothing) in
    let one = one_action bytes w n c (more ++ us) t (stores (array_of y) i e) (suc l) b (b + 1) p (subst (Text w (drop n bytes)) same x) spelled in
    let on = walks _ _ _ more rest r bytes one.cut.word (opened bytes n) us one.cut.more in
    and_rest bytes w n (c ++ (z ∷ [])) more (front ++ (inner ++ (z ∷ more))) us _ _ rest (walk bytes (action t (stores (array_of y) i e) rest) n) one on
    (append_assoc c (z ∷ []) more ∙ split (z ∷ more)) (walk_action bytes n t (stores (array_of y) i e) rest)
walks _ b m _ _ (grammar.conditional {l = l} {e = e} {test = test} {first = first} {more = more} {yes = sure} {rest = rest} (grammar.tag {t = t} h) v s r) bytes w n us x =
    let c = Number t.author ∷ Mark sign.Dot ∷ Number t.serial ∷ Mark sign.Colon ∷ Word keyword.If ∷ test in
    let z = Word keyword.Then in
    let q = Word keyword.Fi in
    let ins = first ++ (q ∷ []) in
    let p = label_pass t (Word keyword.If ∷ test) h ((tt, refl), term_pass expr MAX_BRACKETS test (term_of e) v.0) in
    let same : (c ++ (z ∷ (first ++ (q ∷ more)))) ++ us ≡ c ++ (z ∷ (first ++ (q ∷ (more ++ us)))) =
    append_assoc c (z ∷ (first ++ (q ∷ more))) us ∙ ap (λ ts. c ++ (z ∷ ts)) (append_assoc first (q ∷ more) us) in
    let o = opened_said bytes w n c z (first ++ (q ∷ (more ++ us))) p (tt, refl) (subst (Text w (drop n bytes)) same x) in
    let y = walks _ _ _ first sure s bytes true (opened bytes n) (q ∷ (more ++ us)) o.more in
    let middle = (walk bytes sure (opened bytes n)).end in
    let none = found_as bytes y.cut.word middle [] [] [] (stop middle) (if_else bytes (walk bytes done) middle) (q ∷ (more ++ us))
    (found_none bytes y.cut.word middle (q ∷ (more ++ us)) y.cut.more) refl
    (no_else bytes y.cut.word middle (more ++ us) (walk bytes done) (next_token bytes y.cut.word middle q (more ++ us) tt y.cut.more)) in
    let both = found_then bytes true (opened bytes n) first [] (q ∷ (more ++ us)) (parts_of sure) [] (walk bytes sure (opened bytes n)) (if_else bytes (walk bytes done)) y none in
    let shut = found_close bytes true (opened bytes n) (first ++ []) (more ++ us) q (parts_of sure ++ []) _ refl (tt, refl) both in
    let filled = found_as bytes true (opened bytes n) ((first ++ []) ++ (q ∷ [])) ins (parts_of sure ++ []) _ _ (more ++ us) shut (append_assoc first [] (q ∷ [])) refl in
    let one = found_whole bytes w n c z ins (more ++ us) (first ++ (q ∷ (more ++ us))) t (branch t e sure done done) (parts_of sure ++ []) _ _ _ _ o filled
    (grammar.conditional (grammar.tag h) v s grammar.nothing) in
    let on = walks _ _ _ more rest r bytes one.cut.word _ us one.cut.more in
    and_rest bytes w n (c ++ (z ∷ ins)) more (c ++ (z ∷ (first ++ (q ∷ more)))) us _ _ rest (walk bytes (branch t e sure done rest) n) one on
    (append_assoc c (z ∷ ins) more ∙ ap (λ ts. c ++ (z ∷ ts)) (append_assoc first (q ∷ []) more)) (walk_branch bytes n t e sure done rest)
walks _ b m _ _ (grammar.conditional_else {l = l} {e = e} {test = test} {first = first} {second = second} {more = more} {yes = sure} {no = never} {rest = rest} (grammar.tag {t = t} h) v s u r) bytes w n us x =
    let c = Number t.author ∷ Mark sign.Dot ∷ Number t.serial ∷ Mark sign.Colon ∷ Word keyword.If ∷ test in
    let z = Word keyword.Then in
    let a = Word keyword.Else in
    let q = Word keyword.Fi in
    let ins = first ++ (a ∷ (second ++ (q ∷ []))) in
    let p = label_pass t (Word keyword.If ∷ test) h ((tt, refl), term_pass expr MAX_BRACKETS test (term_of e) v.0) in
    let left = q ∷ (more ++ us) in
    let inner : (first ++ (a ∷ (second ++ (q ∷ more)))) ++ us ≡ first ++ (a ∷ (second ++ left)) =
    append_assoc first (a ∷ (second ++ (q ∷ more))) us ∙ ap (λ ts. first ++ (a ∷ ts)) (append_assoc second (q ∷ more) us) in
    let same : (c ++ (z ∷ (first ++ (a ∷ (second ++ (q ∷ more)))))) ++ us ≡ c ++ (z ∷ (first ++ (a ∷ (second ++ left)))) =
    append_assoc c (z ∷ (first ++ (a ∷ (second ++ (q ∷ more))))) us ∙ ap (λ ts. c ++ (z ∷ ts)) inner in
    let o = opened_said bytes w n c z (first ++ (a ∷ (second ++ left))) p (tt, refl) (subst (Text w (drop n bytes)) same x) in
    let y = walks _ _ _ first sure s bytes true (opened bytes n) (a ∷ (second ++ left)) o.more in
    let middle = (walk bytes sure (opened bytes n)).end in
    let ahead = next_token bytes y.cut.word middle a (second ++ left) tt y.cut.more in
    let other = walks _ _ _ second never u bytes true (closed bytes middle) left (after_else bytes y.cut.word middle (second ++ left) ahead) in
    let rest_of = found_else bytes y.cut.word middle second left (parts_of never) (walk bytes never) ahead other in
    let both = found_then bytes true (opened bytes n) first (a ∷ second) left (parts_of sure) (parts_of never) (walk bytes sure (opened bytes n)) (if_else bytes (walk bytes never)) y rest_of in
    let shut = found_close bytes true (opened bytes n) (first ++ (a ∷ second)) (more ++ us) q (parts_of sure ++ parts_of never) _ refl (tt, refl) both in
    let filled = found_as bytes true (opened bytes n) ((first ++ (a ∷ second)) ++ (q ∷ [])) ins (parts_of sure ++ parts_of never) _ _ (more ++ us) shut (append_assoc first (a ∷ second) (q ∷ [])) refl in
    let one = found_whole bytes w n c z ins (more ++ us) (first ++ (a ∷ (second ++ left))) t (branch t e sure never done) (parts_of sure ++ parts_of never) _ _ _ _ o filled
    (grammar.conditional_else (grammar.tag h) v s u grammar.nothing) in
    let on = walks _ _ _ more rest r bytes one.cut.word _ us one.cut.more in
    let whole_is : ins ++ more ≡ first ++ (a ∷ (second ++ (q ∷ more))) = append_assoc first (a ∷ (second ++ (q ∷ []))) more ∙ ap (λ ts. first ++ (a ∷ ts)) (append_assoc second (q ∷ []) more) in
    and_rest bytes w n (c ++ (z ∷ ins)) more (c ++ (z ∷ (first ++ (a ∷ (second ++ (q ∷ more)))))) us _ _ rest (walk bytes (branch t e sure never rest) n) one on
    (append_assoc c (z ∷ ins) more ∙ ap (λ ts. c ++ (z ∷ ts)) whole_is) (walk_branch bytes n t e sure never rest)
walks _ b m _ _ (grammar.while_loop {l = l} {e = e} {test = test} {inner = inner} {more = more} {body = body} {rest = rest} (grammar.tag {t = t} h) v s r) bytes w n us x =
    let c = Number t.author ∷ Mark sign.Dot ∷ Number t.serial ∷ Mark sign.Colon ∷ Word keyword.While ∷ test in
    let z = Word keyword.Do in
    let q = Word keyword.Od in
    let ins = inner ++ (q ∷ []) in
    let p = label_pass t (Word keyword.While ∷ test) h ((tt, refl), term_pass expr MAX_BRACKETS test (term_of e) v.0) in
    let same : (c ++ (z ∷ (inner ++ (q ∷ more)))) ++ us ≡ c ++ (z ∷ (inner ++ (q ∷ (more ++ us)))) =
    append_assoc c (z ∷ (inner ++ (q ∷ more))) us ∙ ap (λ ts. c ++ (z ∷ ts)) (append_assoc inner (q ∷ more) us) in
    let o = opened_said bytes w n c z (inner ++ (q ∷ (more ++ us))) p (tt, refl) (subst (Text w (drop n bytes)) same x) in
    let y = walks _ _ _ inner body s bytes true (opened bytes n) (q ∷ (more ++ us)) o.more in
    let shut = found_close bytes true (opened bytes n) inner (more ++ us) q (parts_of body) _ refl (tt, refl) y in
    let one = found_whole bytes w n c z ins (more ++ us) (inner ++ (q ∷ (more ++ us))) t (loop t e body done) (parts_of body) _ _ _ _ o shut
    (grammar.while_loop (grammar.tag h) v s grammar.nothing) in
    let on = walks _ _ _ more rest r bytes one.cut.word _ us one.cut.more in
    and_rest bytes w n (c ++ (z ∷ ins)) more (c ++ (z ∷ (inner ++ (q ∷ more)))) us _ _ rest (walk bytes (loop t e body rest) n) one on
    (append_assoc c (z ∷ ins) more ∙ ap (λ ts. c ++ (z ∷ ts)) (append_assoc inner (q ∷ []) more)) (walk_loop bytes n t e body rest)
