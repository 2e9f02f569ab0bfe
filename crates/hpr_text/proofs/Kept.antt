-- A machine that keeps some of the parts goes where one goes that keeps each of them, and finds the same where it keeps them all.
use Rattle.std.proofs.Common.{◌≡◌, ℕ, ◌+◌, ◌-◌, ◌≤◌, ◌^◌, min, List, [], ◌∷◌, length, Bool, true, false, cond, nat_lt, nat_le, ◌&&◌, Option, Some, None, refl, ap, sym, subst, ◌∙◌, arith}
use Rattle.std.proofs.lemmas.Bool.{le-leb}
use Rattle.hpr_terms.specs.declared.limits.TheConstants.{MAX_LEVELS, MAX_PARTS}
use Rattle.hpr_terms.specs.declared.tag.Tag.{Tag}
use Rattle.hpr_terms.specs.declared.expr.Expr.{Expr}
use Rattle.hpr_terms.specs.declared.expr.Expr.TheVariants.{Num}
use Rattle.hpr_terms.specs.declared.keyword.Keyword.TheVariants.{Program, Issued, End, If, Then, Else, Fi, While, Do, Od, Write, Out}
use Rattle.hpr_terms.specs.declared.token.Sign.TheVariants.{Colon, Becomes, Dot, Comma, Semicolon, Open, Close, OpenSquare, CloseSquare}
use Rattle.hpr_terms.specs.declared.token.Token.{Token}
use Rattle.hpr_terms.specs.declared.token.Token.TheVariants.{Word, Name, Number, Mark}
use Rattle.hpr_terms.proofs.Facts.{some_inj}
use Rattle.hpr_terms.specs.Names.{stream, is_name, array_of}
use Rattle.hpr_syntax.specs.Action.{assigns, writes, stores}
use Rattle.hpr_syntax.specs.Body.{Body, done, action, branch, loop}
use Rattle.hpr_scan.specs.Steps.{runs}
use Rattle.hpr_scan.proofs.SoundText.{then_of}
use Rattle.hpr_scan.proofs.Words.{none_some}
use Rattle.hpr_text.specs.declared.blocks.Around.{Around}
use Rattle.hpr_text.specs.declared.blocks.Begun.{Begun}
use Rattle.hpr_text.specs.declared.blocks.Begun.TheVariants as begun
use Rattle.hpr_expressions.specs.declared.expression.Reading.{Reading}
use Rattle.hpr_text.specs.declared.form.Mode.{Mode}
use Rattle.hpr_text.specs.declared.form.Mode.TheVariants.{Tagged, Untagged}
use Rattle.hpr_text.specs.declared.found.Found.{Found}
use Rattle.hpr_text.specs.declared.state.Purpose.{Purpose}
use Rattle.hpr_text.specs.declared.state.Purpose.TheVariants.{Assign, Test, Guard, Output, Store}
use Rattle.hpr_text.specs.declared.state.Place.{Place}
use Rattle.hpr_text.specs.declared.state.Place.TheVariants.{Start, AfterProgram, BeforePair, AfterPairAuthor, AfterPairColon, AfterPair, AtPart, AfterAuthor, AfterDot, AfterSerial, AfterColon, AfterTarget, InIndex, AfterIndex, InExpression, AfterEnd, AfterOpen, AfterName, AfterNameOpen, AfterFinal, AfterComma, AtEnd}
use Rattle.hpr_text.specs.declared.state.State.{State}
use Rattle.hpr_expressions.specs.Expression.{start, start_after, counted_in, read, ended, can_end}
use Rattle.hpr_text.specs.Machine.{limit, counted, tag_given, then_kept, with_number, with_header, with_tag, given, begun_in, with_part, in_then, in_loop, block_ended, else_in, fi_in, od_in, with_name, state_at, at_part, ends_parts, colon_next, first_next, tag_next, part_next, header_next, goes_on, index_ends, in_index_next, ends_here, expression_next, next_at, next}
use Rattle.hpr_text.proofs.Going.{either_way}

-- ---- what shows where parts are not kept

abbrev pub most : ℕ
most = 2 ^ 64 - 1

abbrev bare_tag : Tag
bare_tag = record { author = 0; serial = 0 }

abbrev bare_around : Around
bare_around = record { before = done; tag = bare_tag; test = Num 0 }

abbrev bare_blocks : List Begun → List Begun
bare_blocks [] = []
bare_blocks (begun.Then r ∷ os) = begun.Then bare_around ∷ bare_blocks os
bare_blocks (begun.Else r first ∷ os) = begun.Else bare_around done ∷ bare_blocks os
bare_blocks (begun.Loop r ∷ os) = begun.Loop bare_around ∷ bare_blocks os

-- the mode, the kinds of the open blocks, the names, and the number of parts, which ends at 2 ^ 64 - 1
abbrev pub bare_found : Found → Found
bare_found f =
    record { mode = f.mode; count = min f.count most; has_header = f.has_header; issued = []; blocks = bare_blocks f.blocks; parts = done; names = f.names }

abbrev bare_purpose : Purpose → Purpose
bare_purpose (Assign t x) = Assign bare_tag x
bare_purpose (Test t) = Test bare_tag
bare_purpose (Guard t) = Guard bare_tag
bare_purpose (Output t) = Output bare_tag
bare_purpose (Store t a i) = Store bare_tag a i

abbrev pub bare_place : Place → Place
bare_place (AfterSerial t) = AfterSerial bare_tag
bare_place (AfterColon t) = AfterColon bare_tag
bare_place (AfterTarget t x) = AfterTarget bare_tag x
bare_place (InIndex t a r) = InIndex bare_tag a r
bare_place (AfterIndex t a i k) = AfterIndex bare_tag a i k
bare_place (InExpression p r) = InExpression (bare_purpose p) r
bare_place p = p

abbrev pub bare : State → State
bare s = state_at (bare_found s.found) (bare_place s.place)

abbrev bared : Option State → Option State
bared None = None
bared (Some s) = Some (bare s)

-- at the place, with what shows
abbrev shown_at : Place → Found → Option State
shown_at p f = Some (state_at f p)

bare_length : (bs : List Begun) → length (bare_blocks bs) ≡ length bs
bare_length [] = refl
bare_length (begun.Then r ∷ os) = omega (arith, bare_length os)
bare_length (begun.Else r first ∷ os) = omega (arith, bare_length os)
bare_length (begun.Loop r ∷ os) = omega (arith, bare_length os)

same_mode : (f g : Found) → bare_found f ≡ bare_found g → f.mode ≡ g.mode
same_mode f g e = ap (λ (x : Found). x.mode) e

same_length : (f g : Found) → bare_found f ≡ bare_found g → length f.blocks ≡ length g.blocks
same_length f g e = sym (bare_length f.blocks) ∙ ap (λ (x : Found). length x.blocks) e ∙ bare_length g.blocks

-- ---- a step shows what the bare one shows

guards_bare : (b : Bool) (u v : State) → bare u ≡ bare v → bared (cond b (Some u) None) ≡ bared (cond b (Some v) None)
guards_bare true u v e = ap (λ (x : State). Some x) e
guards_bare false u v e = refl

tag_bare : (o : Mode) (f g : Found) (a : ℕ) → bare_found f ≡ bare_found g → bared (tag_next o f a) ≡ bared (tag_next o g a)
tag_bare Tagged f g a e =
    guards_bare (nat_lt (length f.blocks) MAX_LEVELS && nat_lt a (2 ^ 32)) (state_at f (AfterAuthor a)) (state_at g (AfterAuthor a)) (ap (λ (x : Found). state_at x (AfterAuthor a)) e)
    ∙ ap (λ (k : ℕ). bared (cond (nat_lt k MAX_LEVELS && nat_lt a (2 ^ 32)) (Some (state_at g (AfterAuthor a))) None)) (same_length f g e)
tag_bare (Untagged b) f g a e = refl

-- one more part is counted alike
counted_bare : (l : Option ℕ) (n : ℕ) → min (counted l n) most ≡ min (min n most + 1) most
counted_bare None n = omega arith
counted_bare (Some k) n = omega arith

given_bare : (l m : Option ℕ) (f g : Found) (t u : Tag) → bare_found f ≡ bare_found g
    → bare_found (given (counted l f.count) t f).0 ≡ bare_found (given (counted m g.count) u g).0
given_bare l m f g t u e =
    ap (λ (k : ℕ). record (bare_found f) { count = k }) (counted_bare l f.count) ∙ ap (λ (x : Found). record x { count = min (x.count + 1) most }) e
    ∙ ap (λ (k : ℕ). record (bare_found g) { count = k }) (sym (counted_bare m g.count))

colon_bare : (f g : Found) (t u : Tag) (k : Token) → bare_found f ≡ bare_found g → bared (colon_next f t k) ≡ bared (colon_next g u k)
colon_bare f g t u (Name x) e = ap (shown_at (AfterTarget bare_tag x)) e
colon_bare f g t u (Word If) e = ap (shown_at (InExpression (Test bare_tag) start)) e
colon_bare f g t u (Word While) e = ap (shown_at (InExpression (Guard bare_tag) start)) e
colon_bare f g t u (Word Write) e = ap (shown_at (InExpression (Output bare_tag) start)) e
colon_bare f g t u k e = refl

firsts_bare : (b : Bool) (u v : Found × Tag) (k : Token) → bare_found u.0 ≡ bare_found v.0 → bared (first_next (cond b (Some u) None) k) ≡ bared (first_next (cond b (Some v) None) k)
firsts_bare true u v k e = colon_bare u.0 v.0 u.1 v.1 k e
firsts_bare false u v k e = refl

first_bare : (l m : Option ℕ) (o : Mode) (f g : Found) (k : Token) → bare_found f ≡ bare_found g → bared (first_next (begun_in l o f) k) ≡ bared (first_next (begun_in m o g) k)
first_bare l m Tagged f g k e = refl
first_bare l m (Untagged a) f g k e =
    let u : Found × Tag = given (counted l f.count) (tag_given l a (counted l f.count)) f in
    let v : Found × Tag = given (counted m g.count) (tag_given m a (counted m g.count)) g in
    firsts_bare (nat_lt (length f.blocks) MAX_LEVELS) u v k (given_bare l m f g u.1 v.1 e)
    ∙ ap (λ (n : ℕ). bared (first_next (cond (nat_lt n MAX_LEVELS) (Some v) None) k)) (same_length f g e)

-- how blocks end, where their parts do not show
abbrev bare_else : List Begun → Found → Option State
bare_else [] f = None
bare_else (begun.Then r ∷ os) f = shown_at AtPart (record f { blocks = begun.Else bare_around done ∷ os })
bare_else (begun.Else r first ∷ os) f = None
bare_else (begun.Loop r ∷ os) f = None

abbrev bare_fi : List Begun → Found → Option State
bare_fi [] f = None
bare_fi (begun.Then r ∷ os) f = shown_at AtPart (record f { blocks = os })
bare_fi (begun.Else r first ∷ os) f = shown_at AtPart (record f { blocks = os })
bare_fi (begun.Loop r ∷ os) f = None

abbrev bare_od : List Begun → Found → Option State
bare_od [] f = None
bare_od (begun.Then r ∷ os) f = None
bare_od (begun.Else r first ∷ os) f = None
bare_od (begun.Loop r ∷ os) f = shown_at AtPart (record f { blocks = os })

abbrev bare_end : List Begun → Found → Option State
bare_end [] f = shown_at AfterEnd f
bare_end (b ∷ bs) f = None

else_bare : (bs : List Begun) (f : Found) → bared (at_part (else_in bs f)) ≡ bare_else (bare_blocks bs) (bare_found f)
else_bare [] f = refl
else_bare (begun.Then r ∷ os) f = refl
else_bare (begun.Else r first ∷ os) f = refl
else_bare (begun.Loop r ∷ os) f = refl

fi_bare : (l : Option ℕ) (bs : List Begun) (f : Found) → bared (at_part (fi_in l bs f)) ≡ bare_fi (bare_blocks bs) (bare_found f)
fi_bare l [] f = refl
fi_bare l (begun.Then r ∷ os) f = refl
fi_bare l (begun.Else r first ∷ os) f = refl
fi_bare l (begun.Loop r ∷ os) f = refl

od_bare : (l : Option ℕ) (bs : List Begun) (f : Found) → bared (at_part (od_in l bs f)) ≡ bare_od (bare_blocks bs) (bare_found f)
od_bare l [] f = refl
od_bare l (begun.Then r ∷ os) f = refl
od_bare l (begun.Else r first ∷ os) f = refl
od_bare l (begun.Loop r ∷ os) f = refl

end_bare : (bs : List Begun) (f : Found) → f.blocks ≡ bs → bared (ends_parts bs f) ≡ bare_end (bare_blocks bs) (bare_found f)
end_bare [] f e = refl
end_bare (begun.Then r ∷ os) f e = refl
end_bare (begun.Else r first ∷ os) f e = refl
end_bare (begun.Loop r ∷ os) f e = refl

part_bare : (l m : Option ℕ) (f g : Found) (t : Token) → bare_found f ≡ bare_found g → bared (part_next l f t) ≡ bared (part_next m g t)
part_bare l m f g (Number a) e = tag_bare f.mode f g a e ∙ ap (λ (o : Mode). bared (tag_next o g a)) (same_mode f g e)
part_bare l m f g (Name x) e = first_bare l m f.mode f g (Name x) e ∙ ap (λ (o : Mode). bared (first_next (begun_in m o g) (Name x))) (same_mode f g e)
part_bare l m f g (Word If) e = first_bare l m f.mode f g (Word If) e ∙ ap (λ (o : Mode). bared (first_next (begun_in m o g) (Word If))) (same_mode f g e)
part_bare l m f g (Word While) e = first_bare l m f.mode f g (Word While) e ∙ ap (λ (o : Mode). bared (first_next (begun_in m o g) (Word While))) (same_mode f g e)
part_bare l m f g (Word Write) e = first_bare l m f.mode f g (Word Write) e ∙ ap (λ (o : Mode). bared (first_next (begun_in m o g) (Word Write))) (same_mode f g e)
part_bare l m f g (Word End) e = end_bare f.blocks f refl ∙ ap (λ (x : Found). bare_end x.blocks x) e ∙ sym (end_bare g.blocks g refl)
part_bare l m f g (Word Else) e = else_bare f.blocks f ∙ ap (λ (x : Found). bare_else x.blocks x) e ∙ sym (else_bare g.blocks g)
part_bare l m f g (Word Fi) e = fi_bare l f.blocks f ∙ ap (λ (x : Found). bare_fi x.blocks x) e ∙ sym (fi_bare m g.blocks g)
part_bare l m f g (Word Od) e = od_bare l f.blocks f ∙ ap (λ (x : Found). bare_od x.blocks x) e ∙ sym (od_bare m g.blocks g)
part_bare l m f g t e = refl

header_bare : (o : Mode) (f g : Found) → bare_found f ≡ bare_found g → bared (header_next o f) ≡ bared (header_next o g)
header_bare Tagged f g e = ap (λ (x : Found). shown_at BeforePair (with_header x)) e
header_bare (Untagged a) f g e = refl

ends_bare : (l m : Option ℕ) (f g : Found) (p : Purpose) (o : Option Expr) → bare_found f ≡ bare_found g → bared (ends_here l f p o) ≡ bared (ends_here m g (bare_purpose p) o)
ends_bare l m f g p None e = refl
ends_bare l m f g (Assign t x) (Some v) e = ap (shown_at AtPart) e
ends_bare l m f g (Test t) (Some v) e = ap (λ (x : Found). shown_at AtPart (record x { blocks = begun.Then bare_around ∷ x.blocks })) e
ends_bare l m f g (Guard t) (Some v) e = ap (λ (x : Found). shown_at AtPart (record x { blocks = begun.Loop bare_around ∷ x.blocks })) e
ends_bare l m f g (Output t) (Some v) e = ap (shown_at AtPart) e
ends_bare l m f g (Store t a i) (Some v) e = ap (shown_at AtPart) e

again_purpose : (p : Purpose) → bare_purpose p ≡ bare_purpose (bare_purpose p)
again_purpose (Assign t x) = refl
again_purpose (Test t) = refl
again_purpose (Guard t) = refl
again_purpose (Output t) = refl
again_purpose (Store t a i) = refl

goes_bare : (f g : Found) (p : Purpose) (o : Option Reading) → bare_found f ≡ bare_found g → bared (goes_on f (InExpression p) o) ≡ bared (goes_on g (InExpression (bare_purpose p)) o)
goes_bare f g p None e = refl
goes_bare f g p (Some r) e =
    ap (shown_at (InExpression (bare_purpose p) r)) e ∙ ap (λ (q : Purpose). shown_at (InExpression q r) (bare_found g)) (again_purpose p)

expression_bare : (l m : Option ℕ) (f g : Found) (p : Purpose) (r : Reading) (t : Token) → bare_found f ≡ bare_found g
    → bared (expression_next l f p r t) ≡ bared (expression_next m g (bare_purpose p) r t)
expression_bare l m f g (Assign a x) r (Mark Semicolon) e = ends_bare l m f g (Assign a x) (ended r) e
expression_bare l m f g (Test a) r (Word Then) e = ends_bare l m f g (Test a) (ended r) e
expression_bare l m f g (Guard a) r (Word Do) e = ends_bare l m f g (Guard a) (ended r) e
expression_bare l m f g (Output a) r (Mark Semicolon) e = ends_bare l m f g (Output a) (ended r) e
expression_bare l m f g (Store a x i) r (Mark Semicolon) e = ends_bare l m f g (Store a x i) (ended r) e
expression_bare l m f g (Assign a x) r t e = goes_bare f g (Assign a x) (read r t) e
expression_bare l m f g (Test a) r t e = goes_bare f g (Test a) (read r t) e
expression_bare l m f g (Guard a) r t e = goes_bare f g (Guard a) (read r t) e
expression_bare l m f g (Output a) r t e = goes_bare f g (Output a) (read r t) e
expression_bare l m f g (Store a x i) r t e = goes_bare f g (Store a x i) (read r t) e

index_goes_bare : (f g : Found) (t : Tag) (a : List ℕ) (o : Option Reading) → bare_found f ≡ bare_found g → bared (goes_on f (InIndex t a) o) ≡ bared (goes_on g (InIndex bare_tag a) o)
index_goes_bare f g t a None e = refl
index_goes_bare f g t a (Some r) e = ap (shown_at (InIndex bare_tag a r)) e

index_ends_bare : (f g : Found) (t : Tag) (a : List ℕ) (k : ℕ) (o : Option Expr) → bare_found f ≡ bare_found g → bared (index_ends f t a k o) ≡ bared (index_ends g bare_tag a k o)
index_ends_bare f g t a k None e = refl
index_ends_bare f g t a k (Some i) e = ap (shown_at (AfterIndex bare_tag a i k)) e

-- with either answer of the test, both show the same
either_bare : (b : Bool) (o p q r : Option State) → bared o ≡ bared q → bared p ≡ bared r → bared (cond b o p) ≡ bared (cond b q r)
either_bare true o p q r e h = e
either_bare false o p q r e h = h

in_index_bare : (f g : Found) (t : Tag) (a : List ℕ) (r : Reading) (k : Token) → bare_found f ≡ bare_found g → bared (in_index_next f t a r k) ≡ bared (in_index_next g bare_tag a r k)
in_index_bare f g t a r (Mark CloseSquare) e =
    either_bare (can_end r) _ _ _ _ (index_ends_bare f g t a (counted_in r) (ended r) e) (index_goes_bare f g t a (read r (Mark CloseSquare)) e)
in_index_bare f g t a r k e = index_goes_bare f g t a (read r k) e

step_bare : (l m : Option ℕ) (f g : Found) (p : Place) (t : Token) → bare_found f ≡ bare_found g → bared (next_at l f p t) ≡ bared (next_at m g (bare_place p) t)
step_bare l m f g Start (Word Program) e = ap (shown_at AfterProgram) e
step_bare l m f g AfterProgram (Word Issued) e = header_bare f.mode f g e ∙ ap (λ (o : Mode). bared (header_next o g)) (same_mode f g e)
step_bare l m f g AfterProgram t e = part_bare l m f g t e
step_bare l m f g BeforePair (Number a) e =
    guards_bare (nat_lt a (2 ^ 32)) (state_at f (AfterPairAuthor a)) (state_at g (AfterPairAuthor a)) (ap (λ (x : Found). state_at x (AfterPairAuthor a)) e)
step_bare l m f g (AfterPairAuthor a) (Mark Colon) e = ap (shown_at (AfterPairColon a)) e
step_bare l m f g (AfterPairColon a) (Number k) e =
    guards_bare (nat_le 1 k && nat_lt k (2 ^ 32)) (state_at (with_number a k f) AfterPair) (state_at (with_number a k g) AfterPair) (ap (λ (x : Found). state_at x AfterPair) e)
step_bare l m f g AfterPair (Mark Comma) e = ap (shown_at BeforePair) e
step_bare l m f g AfterPair t e = part_bare l m f g t e
step_bare l m f g AtPart t e = part_bare l m f g t e
step_bare l m f g (AfterAuthor a) (Mark Dot) e = ap (shown_at (AfterDot a)) e
step_bare l m f g (AfterDot a) (Number k) e =
    let t : Tag = record { author = a; serial = k } in
    guards_bare (nat_le 1 k && nat_lt k (2 ^ 32)) (state_at (with_tag t f) (AfterSerial t)) (state_at (with_tag t g) (AfterSerial t)) (ap (λ (x : Found). state_at x (AfterSerial bare_tag)) e)
step_bare l m f g (AfterSerial u) (Mark Colon) e = ap (shown_at (AfterColon bare_tag)) e
step_bare l m f g (AfterColon u) t e = colon_bare f g u bare_tag t e
step_bare l m f g (AfterTarget u x) (Mark Becomes) e = ap (shown_at (InExpression (Assign bare_tag x) start)) e
step_bare l m f g (AfterTarget u x) (Mark OpenSquare) e =
    guards_bare (is_name x) (state_at f (InIndex u (array_of x) start)) (state_at g (InIndex bare_tag (array_of x) start)) (ap (λ (y : Found). state_at y (InIndex bare_tag (array_of x) start)) e)
step_bare l m f g (InIndex u a r) t e = in_index_bare f g u a r t e
step_bare l m f g (AfterIndex u a i k) (Mark Becomes) e = ap (shown_at (InExpression (Store bare_tag a i) (start_after k))) e
step_bare l m f g (InExpression p r) t e = expression_bare l m f g p r t e
step_bare l m f g AfterEnd (Mark Open) e = ap (shown_at AfterOpen) e
step_bare l m f g AfterOpen (Name x) e = ap (shown_at (AfterName x)) e
step_bare l m f g AfterOpen (Word Out) e = ap (λ (y : Found). shown_at AfterFinal (with_name stream y)) e
step_bare l m f g AfterOpen (Mark Close) e = ap (shown_at AtEnd) e
step_bare l m f g (AfterName x) (Mark OpenSquare) e =
    guards_bare (is_name x) (state_at f (AfterNameOpen (array_of x))) (state_at g (AfterNameOpen (array_of x))) (ap (λ (y : Found). state_at y (AfterNameOpen (array_of x))) e)
step_bare l m f g (AfterName x) (Mark Comma) e = ap (λ (y : Found). shown_at AfterComma (with_name x y)) e
step_bare l m f g (AfterName x) (Mark Close) e = ap (λ (y : Found). shown_at AtEnd (with_name x y)) e
step_bare l m f g (AfterNameOpen a) (Mark CloseSquare) e = ap (λ (y : Found). shown_at AfterFinal (with_name a y)) e
step_bare l m f g AfterFinal (Mark Comma) e = ap (shown_at AfterComma) e
step_bare l m f g AfterFinal (Mark Close) e = ap (shown_at AtEnd) e
step_bare l m f g AfterComma (Name x) e = ap (shown_at (AfterName x)) e
step_bare l m f g AfterComma (Word Out) e = ap (λ (y : Found). shown_at AfterFinal (with_name stream y)) e
step_bare l m f g p t e = refl

-- states that show the same go on to states that show the same
steps_bare : (l m : Option ℕ) (s n : State) (t : Token) → bare s ≡ bare n → bared (next l s t) ≡ bared (next m n t)
unfolding next
steps_bare l m s n t e =
    step_bare l None s.found s.found s.place t refl ∙ ap (λ (p : Place). bared (next_at None s.found p t)) (ap (λ (x : State). x.place) e)
    ∙ sym (step_bare m None n.found s.found n.place t (sym (ap (λ (x : State). x.found) e)))

-- ---- how many parts a step counts

abbrev pub OneMore : ℕ → ℕ → Type 0
OneMore c n = (c ≤ n) × (n ≤ c + 1)

as_many : (c : ℕ) → OneMore c c
as_many c = (omega arith, omega arith)

counts_some : (s n : State) (c : ℕ) → OneMore c s.found.count → Some s ≡ Some n → OneMore c n.found.count
counts_some s n c h e = subst (λ (x : State). OneMore c x.found.count) (some_inj _ _ e) h

counts_guard : (b : Bool) (s n : State) (c : ℕ) → OneMore c s.found.count → cond b (Some s) None ≡ Some n → OneMore c n.found.count
counts_guard true s n c h e = counts_some s n c h e
counts_guard false s n c h e = absurd (none_some e)

colon_counts : (c : ℕ) (f : Found) (t : Tag) (k : Token) (n : State) → OneMore c f.count → colon_next f t k ≡ Some n → OneMore c n.found.count
colon_counts c f t (Name x) n h e = counts_some (state_at f (AfterTarget t x)) n c h e
colon_counts c f t (Word If) n h e = counts_some (state_at f (InExpression (Test t) start)) n c h e
colon_counts c f t (Word While) n h e = counts_some (state_at f (InExpression (Guard t) start)) n c h e
colon_counts c f t (Word Write) n h e = counts_some (state_at f (InExpression (Output t) start)) n c h e
colon_counts c f t k n h e = absurd (none_some e)

firsts_count : (c : ℕ) (b : Bool) (u : Found × Tag) (k : Token) (n : State) → OneMore c u.0.count → first_next (cond b (Some u) None) k ≡ Some n → OneMore c n.found.count
firsts_count c true u k n h e = colon_counts c u.0 u.1 k n h e
firsts_count c false u k n h e = absurd (none_some e)

first_counts : (o : Mode) (f : Found) (k : Token) (n : State) → first_next (begun_in None o f) k ≡ Some n → OneMore f.count n.found.count
first_counts Tagged f k n e = absurd (none_some e)
first_counts (Untagged a) f k n e =
    firsts_count f.count (nat_lt (length f.blocks) MAX_LEVELS) (given (f.count + 1) (tag_given None a (f.count + 1)) f) k n (omega arith, omega arith) e

tag_counts : (o : Mode) (f : Found) (a : ℕ) (n : State) → tag_next o f a ≡ Some n → OneMore f.count n.found.count
tag_counts Tagged f a n e = counts_guard (nat_lt (length f.blocks) MAX_LEVELS && nat_lt a (2 ^ 32)) (state_at f (AfterAuthor a)) n f.count (as_many f.count) e
tag_counts (Untagged b) f a n e = absurd (none_some e)

else_counts : (bs : List Begun) (f : Found) (n : State) → at_part (else_in bs f) ≡ Some n → OneMore f.count n.found.count
else_counts (begun.Then r ∷ os) f n e = counts_some (state_at (record f { blocks = begun.Else r f.parts ∷ os; parts = done }) AtPart) n f.count (as_many f.count) e
else_counts [] f n e = absurd (none_some e)
else_counts (begun.Else r first ∷ os) f n e = absurd (none_some e)
else_counts (begun.Loop r ∷ os) f n e = absurd (none_some e)

fi_counts : (bs : List Begun) (f : Found) (n : State) → at_part (fi_in None bs f) ≡ Some n → OneMore f.count n.found.count
fi_counts (begun.Then r ∷ os) f n e = counts_some (state_at (block_ended None os r.before (branch r.tag r.test f.parts done done) f) AtPart) n f.count (as_many f.count) e
fi_counts (begun.Else r first ∷ os) f n e = counts_some (state_at (block_ended None os r.before (branch r.tag r.test first f.parts done) f) AtPart) n f.count (as_many f.count) e
fi_counts [] f n e = absurd (none_some e)
fi_counts (begun.Loop r ∷ os) f n e = absurd (none_some e)

od_counts : (bs : List Begun) (f : Found) (n : State) → at_part (od_in None bs f) ≡ Some n → OneMore f.count n.found.count
od_counts (begun.Loop r ∷ os) f n e = counts_some (state_at (block_ended None os r.before (loop r.tag r.test f.parts done) f) AtPart) n f.count (as_many f.count) e
od_counts [] f n e = absurd (none_some e)
od_counts (begun.Then r ∷ os) f n e = absurd (none_some e)
od_counts (begun.Else r first ∷ os) f n e = absurd (none_some e)

end_counts : (bs : List Begun) (f : Found) (n : State) → ends_parts bs f ≡ Some n → OneMore f.count n.found.count
end_counts [] f n e = counts_some (state_at f AfterEnd) n f.count (as_many f.count) e
end_counts (b ∷ bs) f n e = absurd (none_some e)

part_counts : (f : Found) (t : Token) (n : State) → part_next None f t ≡ Some n → OneMore f.count n.found.count
part_counts f (Number a) n e = tag_counts f.mode f a n e
part_counts f (Name x) n e = first_counts f.mode f (Name x) n e
part_counts f (Word If) n e = first_counts f.mode f (Word If) n e
part_counts f (Word While) n e = first_counts f.mode f (Word While) n e
part_counts f (Word Write) n e = first_counts f.mode f (Word Write) n e
part_counts f (Word End) n e = end_counts f.blocks f n e
part_counts f (Word Else) n e = else_counts f.blocks f n e
part_counts f (Word Fi) n e = fi_counts f.blocks f n e
part_counts f (Word Od) n e = od_counts f.blocks f n e
part_counts f t n e = absurd (none_some e)

header_counts : (o : Mode) (f : Found) (n : State) → header_next o f ≡ Some n → OneMore f.count n.found.count
header_counts Tagged f n e = counts_some (state_at (with_header f) BeforePair) n f.count (as_many f.count) e
header_counts (Untagged a) f n e = absurd (none_some e)

ends_counts : (f : Found) (p : Purpose) (o : Option Expr) (n : State) → ends_here None f p o ≡ Some n → OneMore f.count n.found.count
ends_counts f p None n e = absurd (none_some e)
ends_counts f (Assign t x) (Some v) n e = counts_some (state_at (with_part None t (assigns x v) f) AtPart) n f.count (as_many f.count) e
ends_counts f (Test t) (Some v) n e = counts_some (state_at (in_then t v f) AtPart) n f.count (as_many f.count) e
ends_counts f (Guard t) (Some v) n e = counts_some (state_at (in_loop t v f) AtPart) n f.count (as_many f.count) e
ends_counts f (Output t) (Some v) n e = counts_some (state_at (with_part None t (writes stream v) f) AtPart) n f.count (as_many f.count) e
ends_counts f (Store t a i) (Some v) n e = counts_some (state_at (with_part None t (stores a i v) f) AtPart) n f.count (as_many f.count) e

goes_counts : (f : Found) (p : Reading → Place) (o : Option Reading) (n : State) → goes_on f p o ≡ Some n → OneMore f.count n.found.count
goes_counts f p None n e = absurd (none_some e)
goes_counts f p (Some r) n e = counts_some (state_at f (p r)) n f.count (as_many f.count) e

index_counts : (f : Found) (t : Tag) (a : List ℕ) (k : ℕ) (o : Option Expr) (n : State) → index_ends f t a k o ≡ Some n → OneMore f.count n.found.count
index_counts f t a k None n e = absurd (none_some e)
index_counts f t a k (Some i) n e = counts_some (state_at f (AfterIndex t a i k)) n f.count (as_many f.count) e

in_index_counts : (f : Found) (t : Tag) (a : List ℕ) (r : Reading) (k : Token) (n : State) → in_index_next f t a r k ≡ Some n → OneMore f.count n.found.count
in_index_counts f t a r (Mark CloseSquare) n e =
    either_way (can_end r) (index_ends f t a (counted_in r) (ended r)) (goes_on f (InIndex t a) (read r (Mark CloseSquare))) n
    (index_counts f t a (counted_in r) (ended r) n) (goes_counts f (InIndex t a) (read r (Mark CloseSquare)) n) e
in_index_counts f t a r k n e = goes_counts f (InIndex t a) (read r k) n e

expression_counts : (f : Found) (p : Purpose) (r : Reading) (t : Token) (n : State) → expression_next None f p r t ≡ Some n → OneMore f.count n.found.count
expression_counts f (Assign a x) r (Mark Semicolon) n e = ends_counts f (Assign a x) (ended r) n e
expression_counts f (Test a) r (Word Then) n e = ends_counts f (Test a) (ended r) n e
expression_counts f (Guard a) r (Word Do) n e = ends_counts f (Guard a) (ended r) n e
expression_counts f (Output a) r (Mark Semicolon) n e = ends_counts f (Output a) (ended r) n e
expression_counts f (Store a x i) r (Mark Semicolon) n e = ends_counts f (Store a x i) (ended r) n e
expression_counts f p r t n e = goes_counts f (InExpression p) (read r t) n e

step_counts : (f : Found) (p : Place) (t : Token) (n : State) → next_at None f p t ≡ Some n → OneMore f.count n.found.count
step_counts f Start (Word Program) n e = counts_some (state_at f AfterProgram) n f.count (as_many f.count) e
step_counts f AfterProgram (Word Issued) n e = header_counts f.mode f n e
step_counts f AfterProgram t n e = part_counts f t n e
step_counts f BeforePair (Number a) n e = counts_guard (nat_lt a (2 ^ 32)) (state_at f (AfterPairAuthor a)) n f.count (as_many f.count) e
step_counts f (AfterPairAuthor a) (Mark Colon) n e = counts_some (state_at f (AfterPairColon a)) n f.count (as_many f.count) e
step_counts f (AfterPairColon a) (Number k) n e = counts_guard (nat_le 1 k && nat_lt k (2 ^ 32)) (state_at (with_number a k f) AfterPair) n f.count (as_many f.count) e
step_counts f AfterPair (Mark Comma) n e = counts_some (state_at f BeforePair) n f.count (as_many f.count) e
step_counts f AfterPair t n e = part_counts f t n e
step_counts f AtPart t n e = part_counts f t n e
step_counts f (AfterAuthor a) (Mark Dot) n e = counts_some (state_at f (AfterDot a)) n f.count (as_many f.count) e
step_counts f (AfterDot a) (Number k) n e =
    let t : Tag = record { author = a; serial = k } in
    counts_guard (nat_le 1 k && nat_lt k (2 ^ 32)) (state_at (with_tag t f) (AfterSerial t)) n f.count (as_many f.count) e
step_counts f (AfterSerial u) (Mark Colon) n e = counts_some (state_at f (AfterColon u)) n f.count (as_many f.count) e
step_counts f (AfterColon u) t n e = colon_counts f.count f u t n (as_many f.count) e
step_counts f (AfterTarget u x) (Mark Becomes) n e = counts_some (state_at f (InExpression (Assign u x) start)) n f.count (as_many f.count) e
step_counts f (AfterTarget u x) (Mark OpenSquare) n e = counts_guard (is_name x) (state_at f (InIndex u (array_of x) start)) n f.count (as_many f.count) e
step_counts f (InIndex u a r) t n e = in_index_counts f u a r t n e
step_counts f (AfterIndex u a i k) (Mark Becomes) n e = counts_some (state_at f (InExpression (Store u a i) (start_after k))) n f.count (as_many f.count) e
step_counts f (InExpression p r) t n e = expression_counts f p r t n e
step_counts f AfterEnd (Mark Open) n e = counts_some (state_at f AfterOpen) n f.count (as_many f.count) e
step_counts f AfterOpen (Name x) n e = counts_some (state_at f (AfterName x)) n f.count (as_many f.count) e
step_counts f AfterOpen (Word Out) n e = counts_some (state_at (with_name stream f) AfterFinal) n f.count (as_many f.count) e
step_counts f AfterOpen (Mark Close) n e = counts_some (state_at f AtEnd) n f.count (as_many f.count) e
step_counts f (AfterName x) (Mark OpenSquare) n e = counts_guard (is_name x) (state_at f (AfterNameOpen (array_of x))) n f.count (as_many f.count) e
step_counts f (AfterName x) (Mark Comma) n e = counts_some (state_at (with_name x f) AfterComma) n f.count (as_many f.count) e
step_counts f (AfterName x) (Mark Close) n e = counts_some (state_at (with_name x f) AtEnd) n f.count (as_many f.count) e
step_counts f (AfterNameOpen a) (Mark CloseSquare) n e = counts_some (state_at (with_name a f) AfterFinal) n f.count (as_many f.count) e
step_counts f AfterFinal (Mark Comma) n e = counts_some (state_at f AfterComma) n f.count (as_many f.count) e
step_counts f AfterFinal (Mark Close) n e = counts_some (state_at f AtEnd) n f.count (as_many f.count) e
step_counts f AfterComma (Name x) n e = counts_some (state_at f (AfterName x)) n f.count (as_many f.count) e
step_counts f AfterComma (Word Out) n e = counts_some (state_at (with_name stream f) AfterFinal) n f.count (as_many f.count) e
step_counts f p t n e = absurd (none_some e)

-- ---- where each part is kept

few : (s n : State) → Some s ≡ Some n → n.found.count ≤ MAX_PARTS → s.found.count ≤ MAX_PARTS
few s n e le = subst (λ (x : State). x.found.count ≤ MAX_PARTS) (sym (some_inj _ _ e)) le

few_counted : (c : ℕ) → c + 1 ≤ MAX_PARTS → counted limit c ≡ c + 1
few_counted c le = omega (arith, le)

few_given : (a c : ℕ) → c + 1 ≤ MAX_PARTS → tag_given limit a (c + 1) ≡ tag_given None a (c + 1)
few_given a c le = let e : min (c + 1) MAX_PARTS ≡ c + 1 = omega (arith, le) in ap (λ (k : ℕ). record { author = a; serial = k }) e

given_same : (a : ℕ) (f : Found) → f.count + 1 ≤ MAX_PARTS
    → given (counted limit f.count) (tag_given limit a (counted limit f.count)) f ≡ given (f.count + 1) (tag_given None a (f.count + 1)) f
given_same a f le =
    ap (λ (k : ℕ). given k (tag_given limit a k) f) (few_counted f.count le) ∙ ap (λ (t : Tag). given (f.count + 1) t f) (few_given a f.count le)

colon_few : (f : Found) (t : Tag) (k : Token) (n : State) → colon_next f t k ≡ Some n → n.found.count ≤ MAX_PARTS → f.count ≤ MAX_PARTS
colon_few f t (Name x) n e le = few (state_at f (AfterTarget t x)) n e le
colon_few f t (Word If) n e le = few (state_at f (InExpression (Test t) start)) n e le
colon_few f t (Word While) n e le = few (state_at f (InExpression (Guard t) start)) n e le
colon_few f t (Word Write) n e le = few (state_at f (InExpression (Output t) start)) n e le
colon_few f t k n e le = absurd (none_some e)

firsts_same : (b : Bool) (u v : Found × Tag) (k : Token) (n : State) → (u.0.count ≤ MAX_PARTS → v ≡ u) → n.found.count ≤ MAX_PARTS
    → first_next (cond b (Some u) None) k ≡ Some n → first_next (cond b (Some v) None) k ≡ Some n
firsts_same true u v k n h le e = ap (λ (w : Found × Tag). colon_next w.0 w.1 k) (h (colon_few u.0 u.1 k n e le)) ∙ e
firsts_same false u v k n h le e = absurd (none_some e)

first_same : (o : Mode) (f : Found) (k : Token) (n : State) → n.found.count ≤ MAX_PARTS → first_next (begun_in None o f) k ≡ Some n → first_next (begun_in limit o f) k ≡ Some n
first_same Tagged f k n le e = e
first_same (Untagged a) f k n le e =
    firsts_same (nat_lt (length f.blocks) MAX_LEVELS) (given (f.count + 1) (tag_given None a (f.count + 1)) f)
    (given (counted limit f.count) (tag_given limit a (counted limit f.count)) f) k n (λ h. given_same a f h) le e

-- where what was found has few enough parts, one more is kept
kept_same : (f : Found) (bs : List Begun) (before part : Body) (n : State) → n.found.count ≤ MAX_PARTS → Some (state_at (block_ended None bs before part f) AtPart) ≡ Some n
    → Some (state_at (block_ended limit bs before part f) AtPart) ≡ Some n
kept_same f bs before part n le e =
    let c : f.count ≤ MAX_PARTS = few (state_at (block_ended None bs before part f) AtPart) n e le in
    ap (λ (b : Bool). Some (state_at (record f { blocks = bs; parts = then_kept b before part }) AtPart)) (le-leb f.count MAX_PARTS c) ∙ e

fi_same : (bs : List Begun) (f : Found) (n : State) → n.found.count ≤ MAX_PARTS → at_part (fi_in None bs f) ≡ Some n → at_part (fi_in limit bs f) ≡ Some n
fi_same (begun.Then r ∷ os) f n le e = kept_same f os r.before (branch r.tag r.test f.parts done done) n le e
fi_same (begun.Else r first ∷ os) f n le e = kept_same f os r.before (branch r.tag r.test first f.parts done) n le e
fi_same [] f n le e = e
fi_same (begun.Loop r ∷ os) f n le e = e

od_same : (bs : List Begun) (f : Found) (n : State) → n.found.count ≤ MAX_PARTS → at_part (od_in None bs f) ≡ Some n → at_part (od_in limit bs f) ≡ Some n
od_same (begun.Loop r ∷ os) f n le e = kept_same f os r.before (loop r.tag r.test f.parts done) n le e
od_same [] f n le e = e
od_same (begun.Then r ∷ os) f n le e = e
od_same (begun.Else r first ∷ os) f n le e = e

part_same : (f : Found) (t : Token) (n : State) → n.found.count ≤ MAX_PARTS → part_next None f t ≡ Some n → part_next limit f t ≡ Some n
part_same f (Name x) n le e = first_same f.mode f (Name x) n le e
part_same f (Word If) n le e = first_same f.mode f (Word If) n le e
part_same f (Word While) n le e = first_same f.mode f (Word While) n le e
part_same f (Word Write) n le e = first_same f.mode f (Word Write) n le e
part_same f (Word Fi) n le e = fi_same f.blocks f n le e
part_same f (Word Od) n le e = od_same f.blocks f n le e
part_same f t n le e = e

ends_same : (f : Found) (p : Purpose) (o : Option Expr) (n : State) → n.found.count ≤ MAX_PARTS → ends_here None f p o ≡ Some n → ends_here limit f p o ≡ Some n
ends_same f p None n le e = absurd (none_some e)
ends_same f (Assign t x) (Some v) n le e = kept_same f f.blocks f.parts (action t (assigns x v) done) n le e
ends_same f (Test t) (Some v) n le e = e
ends_same f (Guard t) (Some v) n le e = e
ends_same f (Output t) (Some v) n le e = kept_same f f.blocks f.parts (action t (writes stream v) done) n le e
ends_same f (Store t a i) (Some v) n le e = kept_same f f.blocks f.parts (action t (stores a i v) done) n le e

expression_same : (f : Found) (p : Purpose) (r : Reading) (t : Token) (n : State) → n.found.count ≤ MAX_PARTS → expression_next None f p r t ≡ Some n → expression_next limit f p r t ≡ Some n
expression_same f (Assign a x) r (Mark Semicolon) n le e = ends_same f (Assign a x) (ended r) n le e
expression_same f (Test a) r (Word Then) n le e = ends_same f (Test a) (ended r) n le e
expression_same f (Guard a) r (Word Do) n le e = ends_same f (Guard a) (ended r) n le e
expression_same f (Output a) r (Mark Semicolon) n le e = ends_same f (Output a) (ended r) n le e
expression_same f (Store a x i) r (Mark Semicolon) n le e = ends_same f (Store a x i) (ended r) n le e
expression_same f p r t n le e = e

step_same : (f : Found) (p : Place) (t : Token) (n : State) → n.found.count ≤ MAX_PARTS → next_at None f p t ≡ Some n → next_at limit f p t ≡ Some n
step_same f AfterProgram (Word Issued) n le e = e
step_same f AfterProgram t n le e = part_same f t n le e
step_same f AfterPair (Mark Comma) n le e = e
step_same f AfterPair t n le e = part_same f t n le e
step_same f AtPart t n le e = part_same f t n le e
step_same f (InExpression p r) t n le e = expression_same f p r t n le e
step_same f p t n le e = e

-- ---- one step, and many

-- k, where parts may not be kept, for n, where each is
pub record Kept (n k : State) : Type 0 where
  pub shows : bare n ≡ bare k
  pub same : n.found.count ≤ MAX_PARTS → n ≡ k

pub counts_step : (s : State) (t : Token) (n : State) → next None s t ≡ Some n → OneMore s.found.count n.found.count
unfolding next
counts_step s t n e = step_counts s.found s.place t n e

same_step : (s : State) (t : Token) (n : State) → n.found.count ≤ MAX_PARTS → next None s t ≡ Some n → next limit s t ≡ Some n
unfolding next
same_step s t n le e = step_same s.found s.place t n le e

shows_some : (n : State) (o : Option State) → Some (bare n) ≡ bared o → (m : State) × (o ≡ Some m) × (bare n ≡ bare m)
shows_some n None e = absurd (none_some (sym e))
shows_some n (Some m) e = (m, refl, some_inj _ _ e)

kept_step : (s k : State) (t : Token) (n : State) → Kept s k → next None s t ≡ Some n → (m : State) × (next limit k t ≡ Some m) × Kept n m
kept_step s k t n h e =
    let m = shows_some n (next limit k t) (sym (ap bared e) ∙ steps_bare None limit s k t h.shows) in
    let same : n.found.count ≤ MAX_PARTS → n ≡ m.0 =
    λ (le : n.found.count ≤ MAX_PARTS). some_inj n m.0
    (sym (same_step s t n le e) ∙ ap (λ (x : State). next limit x t) (h.same (omega (arith, le, (counts_step s t n e).0))) ∙ m.1) in
    (m.0, m.1, record { shows = m.2; same = same })

kept_back : (s k : State) (t : Token) (m : State) → Kept s k → next limit k t ≡ Some m → (n : State) × (next None s t ≡ Some n) × Kept n m
kept_back s k t m h e =
    let n = shows_some m (next None s t) (sym (ap bared e) ∙ sym (steps_bare None limit s k t h.shows)) in
    let j = kept_step s k t n.0 h n.1 in
    (n.0, n.1, subst (λ (x : State). Kept n.0 x) (some_inj _ _ (sym j.1 ∙ e)) j.2)

-- where each part is kept, tokens lead where they lead otherwise
pub kept_runs : (s k : State) (ts : List Token) (n : State) → Kept s k → runs (next None) s ts ≡ Some n → (m : State) × (runs (next limit) k ts ≡ Some m) × Kept n m
kept_runs s k [] n h e = (k, refl, subst (λ (x : State). Kept x k) (some_inj _ _ e) h)
kept_runs s k (t ∷ ts) n h e =
    let a = then_of (next None s t) (λ (x : State). runs (next None) x ts) n e in
    let b = kept_step s k t a.0 h a.1 in
    let c = kept_runs a.0 b.0 ts n b.2 a.2 in
    (c.0, rw b.1 c.1, c.2)

pub kept_runs_back : (s k : State) (ts : List Token) (m : State) → Kept s k → runs (next limit) k ts ≡ Some m → (n : State) × (runs (next None) s ts ≡ Some n) × Kept n m
kept_runs_back s k [] m h e = (s, refl, subst (λ (x : State). Kept s x) (some_inj _ _ e) h)
kept_runs_back s k (t ∷ ts) m h e =
    let a = then_of (next limit k t) (λ (x : State). runs (next limit) x ts) m e in
    let b = kept_back s k t a.0 h a.1 in
    let c = kept_runs_back b.0 a.0 ts m b.2 a.2 in
    (c.0, rw b.1 c.1, c.2)

pub begin_kept : (s : State) → Kept s s
begin_kept s = record { shows = refl; same = λ le. refl }
