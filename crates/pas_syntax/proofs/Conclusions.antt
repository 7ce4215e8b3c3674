-- What the reader of programs tells: the one tree that spells a text, or the first token that shows a fault.
use Rattle.std.proofs.Common.{◌≡◌, ◌≢◌, refl, sym, ap, subst, ◌∙◌, ℕ, suc, ◌+◌, ◌≤◌, ◌<◌, arith, List, [], ◌∷◌, ◌++◌}
use Rattle.std.proofs.Common.{length, append_assoc, Ok, Err, Option, Some, None}
use Rattle.std.specs.List.{All}
use Rattle.std.proofs.lemmas.List.{append_cancel_right, length-append}
use Rattle.std.proofs.lemmas.List.Elements.{All-nil, All-cons, All-head, All-tail}
use Rattle.pas_tokens.specs.declared.kinds.Kind.{Kind}
use Rattle.pas_tokens.specs.declared.kinds.Kind.TheVariants as k
use Rattle.pas_tokens.specs.Cutting.{Payload, nothing, Wrong}
use Rattle.pas_tokens.specs.Tokens.{Token}
use Rattle.pas_syntax.specs.Tree.{Program}
use Rattle.pas_syntax.specs.Words.{Word, at, compound_words, program_words}
use Rattle.pas_syntax.specs.Nearest.{IsNearestProgram}
use Rattle.pas_syntax.specs.Parse.{left_out, fault_of, IsSound, tokens_in, Spells, CanStand, IsMisplaced, IsFaulty}
use Rattle.pas_syntax.specs.inner.Prog.{Why, misplaced, shown, spent, look, Out, run, head, and_then}
use Rattle.pas_syntax.specs.inner.Places.{AreTokens, IsPlain}
use Rattle.pas_syntax.specs.inner.DeclarationReaders.{Front, front, program_of, end_at, program}
use Rattle.pas_syntax.proofs.ProgLemmas.{run_bind, fails_again}
use Rattle.pas_syntax.proofs.Good.{AreSound, ShownBy, Stops, Takes, Fails, Good, a_token}
use Rattle.pas_syntax.proofs.Judged.{judged, judged_by, judged_append, tokens_append, Reaches, reaches_last}
use Rattle.pas_syntax.proofs.TurnLemmas.{Any}
use Rattle.pas_syntax.proofs.WordLemmas.{sound_says}
use Rattle.pas_syntax.proofs.PlaceLemmas.{plain_nothing}
use Rattle.pas_syntax.proofs.DeclarationReads.{none_fits}
use Rattle.pas_syntax.proofs.ProgramReads.{head_words, declarations_words, front_words, IsFront}
use Rattle.pas_syntax.proofs.ProgramReads.{a_front}
use Rattle.pas_syntax.proofs.ProgramReads.{behind_front, nearest_front}
use Rattle.pas_syntax.proofs.ProgramReaches.{reaches_front}

-- sound words
all_sound : (ws : List Word) → AreSound ws → All IsSound ws
all_sound [] h = All-nil IsSound
all_sound (w ∷ ws) h = All-cons IsSound w ws h.0 (all_sound ws h.1)

are_sound : (ws : List Word) → All IsSound ws → AreSound ws
are_sound [] h = tt
are_sound (w ∷ ws) h = (All-head IsSound w ws h, are_sound ws (All-tail IsSound w ws h))

sound_push : (ws : List Word) (w : Word) → AreSound ws → IsSound w → AreSound (ws ++ w ∷ [])
sound_push [] w h s = (s, tt)
sound_push (u ∷ ws) w h s = (h.0, sound_push ws w h.1 s)

judged_sound : {A : Type 0} (ws : List Word) (r : Out A) (rest : List Token) → AreSound ws → judged ws r rest ≡ r
judged_sound [] r rest h = refl
judged_sound (w ∷ ws) r rest h = rw (h.0) (judged_sound ws r rest h.1)

-- tokens behind one that is not the end of the text, and those that begin with the end
behind_one : (us : List Token) (t : Token) (rest : List Token) → (t.kind ≢ k.EndOfText) → AreTokens (us ++ t ∷ rest)
    → AreTokens rest
behind_one [] t [] not h = absurd (not h.0)
behind_one [] t (u ∷ rest) not h = h.2
behind_one (v ∷ []) t rest not h = behind_one [] t rest not h.2
behind_one (v ∷ (u ∷ us)) t rest not h = behind_one (u ∷ us) t rest not h.2

the_end : (ts : List Token) → AreTokens ts → k.EndOfText ≡ (head ts).kind
    → ts ≡ a_token k.EndOfText nothing (head ts).line ∷ []
the_end [] h is = absurd h
the_end (t ∷ (u ∷ ts)) h is = absurd (h.0 (sym is))
the_end (t ∷ []) h is =
    let said : t.payload ≡ nothing = plain_nothing t.kind t.payload (subst (λ kind. IsPlain kind) is tt) h.1 in
    λ i. record { kind = sym is i; payload = said i; line = t.line } ∷ []

-- a program is what stands up to its dot, and the end
abbrev front_of : Program → Front
front_of p =
    record {
      head = record { line = p.line; name = p.name; parameters = p.parameters; end = p.behind_heading };
      declarations = record {
        labels = p.labels;
        constants = p.constants;
        types = p.types;
        variables = p.variables;
        routines = p.routines;
      };
      body = p.body;
      dot = p.dot;
    }

abbrev end_word : Program → Word
end_word p = at 0 k.EndOfText p.end

words_split : (p : Program) → front_words (front_of p) ++ end_word p ∷ [] ≡ program_words p
words_split p = behind_front (front_of p) p.end

sound_end : (p : Program) → IsSound (end_word p)
sound_end p = sound_says 0 k.EndOfText nothing p.end none_fits

tokens_push : (us : List Word) (w : Word) → tokens_in (us ++ w ∷ []) ≡ tokens_in us ++ w.token ∷ []
tokens_push [] w = refl
tokens_push (u ∷ us) w = ap (λ ts. u.token ∷ ts) (tokens_push us w)

-- what is answered at the words of a program
pub reaches_program : (most : ℕ) (p : Program) → IsNearestProgram p → length (program_words p) ≤ most
    → run (program most) (tokens_in (program_words p))
    ≡ judged (program_words p) (Ok (p, (end_word p).token ∷ [])) []
unfolding program
reaches_program most p nearest less =
    let f = front_of p in
    let ws = front_words f in
    let e = end_word p in
    let end = e.token ∷ [] in
    let r : Out Program = Ok (p, end) in
    let count : length (ws ++ e ∷ []) ≡ length ws + length (e ∷ []) = length-append ws (e ∷ []) in
    let all : length (ws ++ e ∷ []) ≡ length (program_words p) = ap length (words_split p) in
    let short : length ws < most = omega (arith, less, count, all) in
    let read : Reaches (program most) ws r end = reaches_last (front most) (λ f. look (end_at f)) ws f end
    (reaches_front most f end nearest short) in
    let split : tokens_in (ws ++ e ∷ []) ≡ tokens_in ws ++ end = tokens_push ws e in
    let whole : judged (ws ++ e ∷ []) r [] ≡ judged ws r end = judged_append ws (e ∷ []) r []
    ∙ ap (λ q. judged ws q end) (judged_sound (e ∷ []) r [] (sound_end p, tt)) in
    subst (λ us. run (program most) (tokens_in us) ≡ judged us r []) (words_split p)
    (ap (λ us. run (program most) us) split ∙ read ∙ sym whole)

ok_same : {A : Type 0} (a b : A) (s t : List Token) → ◌≡◌ {A = Out A} (Ok (a, s)) (Ok (b, t)) → a ≡ b
ok_same {A = A} a b s t e =
    let pair : ◌≡◌ {A = A × List Token} (a, s) (b, t) = cc in ap (λ p. p.0) pair

-- no two trees spell the same tokens
pub only : (ts : List Token) (p q : Program) → Spells ts p → Spells ts q → p ≡ q
only ts p q one other =
    let most = length (program_words p) + length (program_words q) in
    let reads : (p : Program) → Spells ts p → length (program_words p) ≤ most
    → run (program most) ts ≡ Ok (p, (end_word p).token ∷ [])
    = λ p s less. subst (λ ts. run (program most) ts ≡ Ok (p, (end_word p).token ∷ [])) s.words
    (reaches_program most p s.nearest less
    ∙ judged_sound (program_words p) (Ok (p, (end_word p).token ∷ [])) [] (are_sound (program_words p) s.sound)) in
    let less_p : length (program_words p) ≤ most = omega arith in
    let less_q : length (program_words q) ≤ most = omega arith in
    ok_same p q ((end_word p).token ∷ []) ((end_word q).token ∷ []) (sym (reads p one less_p) ∙ reads q other less_q)

-- the end of the text, or another token there
record IsEnd (f : Front) (rest : List Token) (p : Program) (after : List Token) : Type 0 where
  pub kind : k.EndOfText ≡ (head rest).kind
  pub program : program_of f (head rest).line ≡ p
  pub same : rest ≡ after

ends_there : (f : Front) (rest : List Token) (p : Program) (after : List Token) (kind : Kind) (payload : Payload)
    (line : ℕ) → kind ≡ (head rest).kind → line ≡ (head rest).line
    → run (end_at f kind payload line) rest ≡ Ok (p, after) → IsEnd f rest p after
ends_there f rest p after k.EndOfText payload line is at_line e =
    let pair : ◌≡◌ {A = Program × List Token} (program_of f line, rest) (p, after) = cc in
    record {
      kind = is;
      program = ap (λ line. program_of f line) (sym at_line) ∙ ap (λ q. q.0) pair;
      same = ap (λ q. q.1) pair;
    }
ends_there f rest p after kind payload line is at_line e = cc

-- the tree that is read spells the text
read_whole : (ts : List Token) (p : Program) (after : List Token) (r : Out Front) → AreTokens ts → Good IsFront Any ts r
    → and_then r (λ f. look (end_at f)) ≡ Ok (p, after) → Spells ts p
read_whole ts p after (Err stopped) tokens good e = cc
read_whole ts p after (Ok (f, rest)) tokens good e =
    let h : IsEnd f rest p after = ends_there f rest p after (head rest).kind (head rest).payload (head rest).line refl
    refl e in
    let w = at 0 k.Dot f.dot in
    let hs = head_words f.head in
    let ds = declarations_words f.declarations in
    let bs = compound_words f.body in
    let us = hs ++ (ds ++ bs) in
    let ends_so : front_words f ≡ us ++ w ∷ [] = ap (λ ws. hs ++ ws) (sym (append_assoc ds bs (w ∷ [])))
    ∙ sym (append_assoc hs (ds ++ bs) (w ∷ [])) in
    let read : ts ≡ tokens_in us ++ (w.token ∷ rest) = good.read
    ∙ ap (λ ws. tokens_in ws ++ rest) (good.spelled.0 ∙ ends_so) ∙ tokens_append us (w ∷ []) rest in
    let left : AreTokens rest = behind_one (tokens_in us) w.token rest (λ e. cc) (subst AreTokens read tokens) in
    let last = a_token k.EndOfText nothing (head rest).line in
    let q = program_of f (head rest).line in
    let all : tokens_in (program_words q) ≡ ts = ap tokens_in (sym (behind_front f (head rest).line))
    ∙ (tokens_push (front_words f) (end_word q)
    ∙ (ap (λ ws. tokens_in ws ++ last ∷ []) (sym good.spelled.0)
    ∙ (ap (λ us. tokens_in good.words ++ us) (sym (the_end rest left h.kind)) ∙ sym good.read))) in
    let sound : AreSound (front_words f ++ end_word q ∷ []) = sound_push (front_words f) (end_word q)
    (subst AreSound good.spelled.0 good.sound) (sound_end q) in
    subst (λ p. Spells ts p) h.program (record {
      words = all;
      nearest = nearest_front f (head rest).line good.spelled.1;
      sound = all_sound (program_words q) (subst AreSound (behind_front f (head rest).line) sound);
    })

pub is_spelled : (most : ℕ) (ts : List Token) (p : Program) (after : List Token) → AreTokens ts
    → run (program most) ts ≡ Ok (p, after) → Spells ts p
unfolding program
is_spelled most ts p after tokens e =
    read_whole ts p after (run (front most) ts) tokens ((a_front most).reads ts)
    (sym (run_bind (front most) (λ f. look (end_at f)) ts) ∙ e)

-- where reading stops, some program goes on
record Goes (ts : List Token) (why : Why) (rest : List Token) : Type 0 where
  pub program : Program
  pub nearest : IsNearestProgram program
  pub front : List Word
  pub word : Word
  pub behind : List Word
  pub words : program_words program ≡ front ++ word ∷ behind
  pub read : ts ≡ tokens_in front ++ rest
  pub sound : AreSound front
  pub shows : ShownBy why word (head rest)

goes_by : (ts : List Token) (why : Why) (rest : List Token) → Stops IsFront ts why rest → Goes ts why rest
goes_by ts why rest s =
    let p = program_of s.tree 0 in
    record {
      program = p;
      nearest = nearest_front s.tree 0 s.spelled.1;
      front = s.front;
      word = s.word;
      behind = s.behind ++ end_word p ∷ [];
      words = sym (behind_front s.tree 0) ∙ (ap (λ ws. ws ++ end_word p ∷ []) (sym s.spelled.0)
          ∙ append_assoc s.front (s.word ∷ s.behind) (end_word p ∷ []));
      read = s.read;
      sound = s.sound;
      shows = s.shows;
    }

goes_at_end : (ts : List Token) (f : Front) (rest : List Token) → Takes IsFront Any ts f rest → Goes ts misplaced rest
goes_at_end ts f rest good =
    let p = program_of f 0 in
    record {
      program = p;
      nearest = nearest_front f 0 good.spelled.1;
      front = good.words;
      word = end_word p;
      behind = [];
      words = sym (behind_front f 0) ∙ ap (λ ws. ws ++ end_word p ∷ []) (sym good.spelled.0);
      read = good.read;
      sound = good.sound;
      shows = tt;
    }

not_at_end : (ts : List Token) (f : Front) (why : Why) (rest after : List Token) (kind : Kind) (payload : Payload)
    (line : ℕ) → Takes IsFront Any ts f rest → run (end_at f kind payload line) rest ≡ Err (why, after)
    → Goes ts why after
not_at_end ts f why rest after k.EndOfText payload line good e = cc
not_at_end ts f why rest after kind payload line good e =
    let pair : ◌≡◌ {A = Why × List Token} (misplaced, rest) (why, after) = cc in
    subst (λ q. Goes ts q.0 q.1) pair (goes_at_end ts f rest good)

not_spent : (ts : List Token) (why : Why) (rest : List Token) → (why ≡ spent → ⊥) → Fails IsFront ts why rest
    → Goes ts why rest
not_spent ts spent rest not s = absurd (not refl)
not_spent ts misplaced rest not s = goes_by ts misplaced rest s
not_spent ts (shown part) rest not s = goes_by ts (shown part) rest s

goes_on_from : (ts : List Token) (why : Why) (rest : List Token) (r : Out Front) → (why ≡ spent → ⊥)
    → Good IsFront Any ts r → and_then r (λ f. look (end_at f)) ≡ Err (why, rest) → Goes ts why rest
goes_on_from ts why rest (Err (other, there)) not good e =
    let pair : ◌≡◌ {A = Why × List Token} (other, there) (why, rest) = cc in
    let is : why ≡ other = sym (ap (λ q. q.0) pair) in
    subst (λ q. Goes ts q.0 q.1) pair (not_spent ts other there (λ s. not (is ∙ s)) good)
goes_on_from ts why rest (Ok (f, there)) not good e =
    not_at_end ts f why there rest (head there).kind (head there).payload (head there).line good e

goes : (most : ℕ) (ts : List Token) (why : Why) (rest : List Token) → (why ≡ spent → ⊥)
    → run (program most) ts ≡ Err (why, rest) → Goes ts why rest
unfolding program
goes most ts why rest not e =
    goes_on_from ts why rest (run (front most) ts) not ((a_front most).reads ts)
    (sym (run_bind (front most) (λ f. look (end_at f)) ts) ∙ e)

stands : (ts before : List Token) (why : Why) (t : Token) (more : List Token) → ts ≡ before ++ t ∷ more
    → (g : Goes ts why (t ∷ more)) → CanStand before g.word
stands ts before why t more split g =
    record {
      program = g.program;
      nearest = g.nearest;
      front = g.front;
      rest = g.behind;
      words = g.words;
      same = append_cancel_right (tokens_in g.front) before (t ∷ more) (sym g.read ∙ split);
      sound = all_sound g.front g.sound;
    }

-- a token that shows what is left out, or too much nesting
pub is_faulty : (most : ℕ) (ts before : List Token) (t : Token) (more : List Token) (part : ℕ)
    → ts ≡ before ++ t ∷ more → run (program most) ts ≡ Err (shown part, t ∷ more)
    → IsFaulty before t (left_out part)
is_faulty most ts before t more part split e =
    let g = goes most ts (shown part) (t ∷ more) (λ e. cc) e in
    record {
      word = g.word;
      stands = stands ts before (shown part) t more split g;
      same = g.shows.0;
      shows = g.shows.1;
    }

-- a fault that is shown is no misplaced token
shown_so : {A : Type 0} (o : Option Wrong) (w : Word) (ws : List Word) (r : Out A) (rest ts : List Token)
    → (r ≡ Err (misplaced, ts) → ⊥) → judged_by o w ws r rest ≡ Err (misplaced, ts) → ⊥
shown_so None w ws r rest ts not e = not e
shown_so (Some refusal) w ws r rest ts not e =
    let pair : ◌≡◌ {A = Why × List Token} (shown refusal.which, tokens_in (w ∷ ws) ++ rest) (misplaced, ts) = cc in
    let same : shown refusal.which ≡ misplaced = ap (λ q. q.0) pair in cc

never_misplaced : {A : Type 0} (ws : List Word) (a : A) (s rest ts : List Token)
    → judged ws (Ok (a, s)) rest ≡ Err (misplaced, ts) → ⊥
never_misplaced [] a s rest ts e = cc
never_misplaced (w ∷ ws) a s rest ts e =
    shown_so (fault_of w) w ws (judged ws (Ok (a, s)) rest) rest ts (never_misplaced ws a s rest ts) e

no_word_there : (ts before : List Token) (t : Token) (more : List Token) → ts ≡ before ++ t ∷ more
    → ((most : ℕ) → suc (length ts) ≤ most → run (program most) ts ≡ Err (misplaced, t ∷ more))
    → (word : Word) → CanStand before word → word.token ≢ t
no_word_there ts before t more split e word c same =
    let most = suc (length ts) + length (program_words c.program) in
    let us = tokens_in c.rest in
    let p = c.program in
    let r : Out Program = Ok (p, (end_word p).token ∷ []) in
    let again : run (program most) (before ++ t ∷ us) ≡ Err (misplaced, t ∷ us)
    = fails_again (program most) ts before more us t misplaced (e most (omega arith)) split in
    let whole : tokens_in (program_words p) ≡ before ++ t ∷ us = ap tokens_in c.words
    ∙ (tokens_of_split c.front word c.rest ∙ (ap (λ ts. ts ++ word.token ∷ us) c.same
    ∙ ap (λ t. before ++ t ∷ us) same)) in
    let answer : judged (program_words p) r [] ≡ Err (misplaced, t ∷ us)
    = sym (reaches_program most p c.nearest (omega arith))
    ∙ ap (λ ts. run (program most) ts) whole ∙ again in
    never_misplaced (program_words p) p ((end_word p).token ∷ []) [] (t ∷ us) answer
  where
    tokens_of_split : (us : List Word) (w : Word) (vs : List Word)
        → tokens_in (us ++ w ∷ vs) ≡ tokens_in us ++ w.token ∷ tokens_in vs
    tokens_of_split [] w vs = refl
    tokens_of_split (u ∷ us) w vs = ap (λ ts. u.token ∷ ts) (tokens_of_split us w vs)

-- a token that may not stand there
pub is_misplaced : (ts before : List Token) (t : Token) (more : List Token) → ts ≡ before ++ t ∷ more
    → ((most : ℕ) → suc (length ts) ≤ most → run (program most) ts ≡ Err (misplaced, t ∷ more))
    → IsMisplaced before t
is_misplaced ts before t more split e =
    let least = suc (length ts) in
    let g = goes least ts misplaced (t ∷ more) (λ e. cc) (e least (omega arith)) in
    record {
      other = g.word;
      stands = stands ts before misplaced t more split g;
      no_word = no_word_there ts before t more split e;
    }
