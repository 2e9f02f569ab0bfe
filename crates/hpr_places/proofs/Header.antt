-- The first part is found behind the header.
use Rattle.std.proofs.Common.{◌≡◌, ℕ, ◌+◌, ◌<◌, ◌^◌, List, [], ◌∷◌, ◌++◌, length, get_or, drop, Bool, true, false, eqb, codes, refl, sym, ap, subst, ◌∙◌, arith}
use Rattle.std.proofs.Math.Seq.{drop-cons}
use Rattle.std.proofs.lemmas.List.{length-drop}
use Rattle.hpr_terms.specs.declared.limits.TheConstants.{TAG_NUMBERS}
use Rattle.hpr_terms.specs.declared.tag.Tag.{Tag}
use Rattle.hpr_terms.specs.declared.keyword.Keyword.TheVariants as keyword
use Rattle.hpr_terms.specs.declared.token.Sign.TheVariants as sign
use Rattle.hpr_terms.specs.declared.token.Token.{Token}
use Rattle.hpr_terms.specs.declared.token.Token.TheVariants.{Word, Number, Mark}
use Rattle.hpr_terms.specs.Tokens.{is_word, Text}
use Rattle.hpr_scan.proofs.Words.{IsSmall, word_bytes}
use Rattle.hpr_syntax.specs.Body.{Body}
use Rattle.hpr_syntax.specs.Grammar as grammar
use Rattle.hpr_syntax.specs.Grammar.{tagged, Labels, SpellsParts, pair_then, SpellsPairs}
use Rattle.hpr_places.specs.Private.Walk.{skip, closed, signed, after_pair, has_comma, PairsEnd, last, more}
use Rattle.hpr_places.proofs.Bytes.{word_no_comma}
use Rattle.hpr_places.proofs.Cut.{Cut, cut_then, cut_to, cut_one, Next, next_token, closed_is, signed_is}

-- ---- what stands behind the header

-- the first of these tokens is a word, and is not `issued`
pub record Begins (ts : List Token) : Type 0 where
  pub first : Token
  pub rest : List Token
  pub is : ts ≡ first ∷ rest
  pub word : is_word first ≡ true
  pub small : IsSmall first
  pub other : first ≡ Word keyword.Issued → ⊥

below : (n : ℕ) → n < TAG_NUMBERS → n < 2 ^ 64
below n h = omega arith

label_begins : (n : ℕ) (label : List Token) (t : Tag) (ts : List Token) → Labels tagged n label t → Begins (label ++ ts)
label_begins n _ _ ts (grammar.tag {t = t} h) = record {
  first = Number t.author;
  rest = Mark sign.Dot ∷ Number t.serial ∷ Mark sign.Colon ∷ ts;
  is = refl;
  word = refl;
  small = below t.author h.0;
  other = λ e. absurd cc;
}

more_begins : (a b : List Token) → Begins a → Begins (a ++ b)
more_begins a b x = record { first = x.first; rest = x.rest ++ b; is = ap (λ ts. ts ++ b) x.is; word = x.word; small = x.small; other = x.other }

pub parts_begin : (l b k : ℕ) (ts : List Token) (body : Body) (us : List Token) → SpellsParts tagged l b k ts body → Begins us → Begins (ts ++ us)
parts_begin l b k _ _ us grammar.nothing x = x
parts_begin _ b k _ _ us (grammar.assignment {t = t} {label = label} h v r) x = more_begins _ us (label_begins b label t _ h)
parts_begin _ b k _ _ us (grammar.write {t = t} {label = label} h v r) x = more_begins _ us (label_begins b label t _ h)
parts_begin _ b k _ _ us (grammar.store {t = t} y {label = label} named h v r) x = more_begins _ us (label_begins b label t _ h)
parts_begin _ b k _ _ us (grammar.conditional {t = t} {label = label} h v s r) x = more_begins _ us (label_begins b label t _ h)
parts_begin _ b k _ _ us (grammar.conditional_else {t = t} {label = label} h v s u r) x = more_begins _ us (label_begins b label t _ h)
parts_begin _ b k _ _ us (grammar.while_loop {t = t} {label = label} h v s r) x = more_begins _ us (label_begins b label t _ h)

-- ---- whether a comma comes next

comma_at : (bytes : List ℕ) (n first b : ℕ) (bs : List ℕ) → skip bytes n ≡ first → drop first bytes ≡ b ∷ bs → has_comma bytes n ≡ eqb b 44
unfolding has_comma
comma_at bytes n first b bs e h = ap (λ k. eqb (get_or bytes k 0) 44) e ∙ ap (λ k. eqb k 44) (head_is bytes first b bs h)
  where
    head_is : (xs : List ℕ) (i b : ℕ) (bs : List ℕ) → drop i xs ≡ b ∷ bs → get_or xs i 0 ≡ b
    head_is xs i b bs h =
        let long = ap length h in
        let below : i < length xs = omega (arith, long, length-drop i xs) in
        let same = sym (drop-cons xs i 0 below) ∙ h in
        cc

word_no_comma_next : (bytes : List ℕ) (w : Bool) (n : ℕ) (t : Token) (us : List Token) (x : Next bytes w n t us) → is_word t ≡ true → IsSmall t → has_comma bytes n ≡ false
word_no_comma_next bytes w n t us x one s =
    let k = word_bytes x.text t x.is one s in
    let left = drop (x.first + length x.text) bytes in
    let here : drop x.first bytes ≡ k.first ∷ (k.rest ++ left) = x.here ∙ ap (λ v. v ++ left) k.is in
    comma_at bytes n x.first k.first (k.rest ++ left) x.skips here ∙ word_no_comma k.first k.begins

comma_next : (bytes : List ℕ) (w : Bool) (n : ℕ) (us : List Token) (x : Next bytes w n (Mark sign.Comma) us) → has_comma bytes n ≡ true
comma_next bytes w n us x =
    let left = drop (x.first + length x.text) bytes in
    let here : drop x.first bytes ≡ 44 ∷ left = x.here ∙ ap (λ v. v ++ left) x.is in
    comma_at bytes n x.first 44 left x.skips here

begins_no_comma : (bytes : List ℕ) (w : Bool) (n : ℕ) (us : List Token) → Begins us → Text w (drop n bytes) us → has_comma bytes n ≡ false
begins_no_comma bytes w n us b x =
    let y = subst (Text w (drop n bytes)) b.is x in
    word_no_comma_next bytes w n b.first b.rest (next_token bytes w n b.first b.rest b.small y) b.word b.small

-- ---- a pair

after_pair_is : (bytes : List ℕ) (n a b c : ℕ) → closed bytes n ≡ a → signed bytes a ≡ b → closed bytes b ≡ c → after_pair bytes n ≡ c
unfolding after_pair
after_pair_is bytes n a b c e f g = ap (λ k. closed bytes (signed bytes k)) e ∙ ap (closed bytes) f ∙ g

colon_long : (text : List ℕ) → text ≡ codes ":" → length text ≡ 1
colon_long text e = ap length e

comma_long : (text : List ℕ) → text ≡ codes "," → length text ≡ 1
comma_long text e = ap length e

cut_pair : (bytes : List ℕ) (w : Bool) (n : ℕ) (p : ℕ × ℕ) (us : List Token) → (p.0 < 2 ^ 64) × (p.1 < 2 ^ 64) → Text w (drop n bytes) (pair_then p us)
    → Cut bytes w n (pair_then p []) (after_pair bytes n) us
unfolding cut_one
cut_pair bytes w n p us small x =
    let c = Mark sign.Colon in
    let a = next_token bytes w n (Number p.0) (c ∷ Number p.1 ∷ us) small.0 x in
    let e = closed_is bytes w n (Number p.0) (c ∷ Number p.1 ∷ us) a refl small.0 in
    let n1 = a.first + length a.text in
    let b = next_token bytes true n1 c (Number p.1 ∷ us) tt a.more in
    let f = signed_is bytes true n1 c (Number p.1 ∷ us) b (colon_long b.text b.is) in
    let n2 = b.first + length b.text in
    let d = next_token bytes false n2 (Number p.1) us small.1 b.more in
    let g = closed_is bytes false n2 (Number p.1) us d refl small.1 in
    let n3 = d.first + length d.text in
    let two = cut_then bytes true n1 n2 n3 (c ∷ []) (Number p.1 ∷ []) us (cut_one bytes true n1 c (Number p.1 ∷ us) b) (cut_one bytes false n2 (Number p.1) us d) in
    let all = cut_then bytes w n n1 n3 (Number p.0 ∷ []) (c ∷ Number p.1 ∷ []) us (cut_one bytes w n (Number p.0) (c ∷ Number p.1 ∷ us) a) two in
    cut_to bytes w n n3 (after_pair bytes n) (pair_then p []) (pair_then p []) us all refl (sym (after_pair_is bytes n n1 n2 n3 e f g))

last_end : (bytes : List ℕ) (n m : ℕ) → PairsEnd bytes n m → has_comma bytes n ≡ false → n ≡ m
last_end bytes n _ (last e) never = refl
last_end bytes n m (more e h) never = absurd cc

later_end : (bytes : List ℕ) (n m : ℕ) → PairsEnd bytes n m → has_comma bytes n ≡ true → PairsEnd bytes (after_pair bytes (signed bytes n)) m
later_end bytes n _ (last e) sure = absurd cc
later_end bytes n m (more e h) sure = h

pub cut_pairs : (bytes : List ℕ) (w : Bool) (n m : ℕ) (ts : List Token) (ps : List (ℕ × ℕ)) (us : List Token) → SpellsPairs ts ps → Begins us → PairsEnd bytes (after_pair bytes n) m
    → Text w (drop n bytes) (ts ++ us) → Cut bytes w n ts m us
unfolding cut_to cut_one
cut_pairs bytes w n m _ _ us (grammar.one {p = p} h) b e x =
    let c = cut_pair bytes w n p us (below p.0 h.0, below p.1 h.1.1) x in
    let never = begins_no_comma bytes c.word (after_pair bytes n) us b c.more in
    cut_to bytes w n (after_pair bytes n) m (pair_then p []) (pair_then p []) us c refl (last_end bytes (after_pair bytes n) m e never)
cut_pairs bytes w n m _ _ us (grammar.more {p = p} {ts = ts} {ps = ps} h k) b e x =
    let z = Mark sign.Comma in
    let c = cut_pair bytes w n p (z ∷ (ts ++ us)) (below p.0 h.0, below p.1 h.1.1) x in
    let n1 = after_pair bytes n in
    let d = next_token bytes c.word n1 z (ts ++ us) tt c.more in
    let sure = comma_next bytes c.word n1 (ts ++ us) d in
    let f = signed_is bytes c.word n1 z (ts ++ us) d (comma_long d.text d.is) in
    let n2 = signed bytes n1 in
    let comma = cut_to bytes c.word n1 (d.first + length d.text) n2 (z ∷ []) (z ∷ []) (ts ++ us) (cut_one bytes c.word n1 z (ts ++ us) d) refl (sym f) in
    let r = cut_pairs bytes false n2 m ts ps us k b (later_end bytes n1 m e sure) comma.more in
    let on = cut_then bytes c.word n1 n2 m (z ∷ []) ts us comma r in
    cut_then bytes w n n1 m (pair_then p []) (z ∷ ts) us c on
