-- The reader of `lines`, fed a line byte by byte, comes to what the format says of the whole line (`reads`). Assumes nothing.
use Prim.Native.Nat.{ℕ, ◌%◌}
use mathlib.Core.Bool.{Bool, true, false, not}
use mathlib.Core.List.{List, [], ◌∷◌}
use Rattle.std.specs.Prelude.{Option, None, Some, is_none, unwrap_or}
use mathlib.Core.Path.{◌≡◌, refl, sym, ap, ◌∙◌}
use lib.Dec.{eqb}
use Rattle.base.specs.First.{pick}
use Rattle.lines.specs.declared.Line.{Line}
use Rattle.lines.specs.declared.Reading.{Reading}
use Rattle.words.specs.declared.Word.{Word}
use Rattle.words.specs.Words.{name, word_of, form_of, base_of, most_of, rest_of}
use Rattle.digits.specs.Digits.{digit_of, grown_by, number_from, number}
use Rattle.lines.specs.Reader.{start, bad, grows, grown, letter, digit, keep, close_word, close_number, close, opened, feed, complete, finish, line_of, feed_all}
use Rattle.format.specs.Format.{head, tail, word_from, Said, bad_line, said, if_read, if_word, follow, line}

-- What a line that was read to its end says.
abbrev pub outcome_by : Option Line → List ℕ → Said
outcome_by None values = bad_line
outcome_by (Some l) values = said l values

abbrev pub outcome : Reading × List ℕ → Said
outcome s = outcome_by (line_of s.0) s.1

-- The bytes of a line, and its end.
abbrev pub read_all : List ℕ → Reading → List ℕ → Reading × List ℕ
read_all bs r values = let f = feed_all bs r values in finish f.0 f.1

-- A line that is good so far: its word is under way, or known.
abbrev st : Bool → Option Word → Option Word → ℕ → ℕ → Option ℕ → ℕ → Reading
st full before word letters form value count =
    record { full = full; good = true; naming = is_none word; before = before; letters = letters; word = word; form = form; value = value; count = count }

-- One whose field, a word or a number, has ended.
abbrev ended : Bool → Bool → Option Word → Word → ℕ → ℕ → Option ℕ → ℕ → Reading
ended naming full before w letters form value count =
    record { full = full; good = true; naming = naming; before = before; letters = letters; word = Some w; form = form; value = value; count = count }

-- What follows a word, or a number, that has been read.
abbrev after_word : Bool → Option Word → ℕ → List ℕ → Option ℕ → List (List ℕ) → Said
after_word full before n values o xs = if_word full before o (λ w form. follow full before w form n values xs)

abbrev after_number : Bool → Option Word → Word → ℕ → ℕ → List ℕ → Option ℕ → List (List ℕ) → Said
after_number full before w f n values o xs = if_read o (λ v. follow full before w (rest_of f) (keep n v values).0 (keep n v values).1 xs)

-- The rest of a number, of which a digit has come or not.
abbrev number_on : ℕ → ℕ → Option ℕ → List ℕ → Option ℕ
number_on base most value [] = value
number_on base most value (b ∷ bs) = number_from base most (unwrap_or value 0) (b ∷ bs)

begun : (base most : ℕ) (x : List ℕ) → number base most x ≡ number_on base most None x
unfolding number
begun base most [] = refl
begun base most (b ∷ bs) = refl

going : (base most value : ℕ) (x : List ℕ) → number_from base most value x ≡ number_on base most (Some value) x
unfolding number_from
going base most value [] = refl
going base most value (b ∷ bs) = refl

-- What the format says of the fields that are left, from where the line stands.
abbrev rest : Bool → Option Word → Option Word → ℕ → ℕ → Option ℕ → ℕ → List ℕ → List ℕ → Said
rest full before None letters form value count values bs = after_word full before count values (word_from letters (head bs)) (tail bs)
rest full before (Some w) letters form value count values bs =
    after_number full before w form count values (number_on (base_of (form % 16)) (most_of (form % 16)) value (head bs)) (tail bs)

-- A bad line stays bad.
bad_stays : (bs : List ℕ) (r : Reading) (values : List ℕ) → r.good ≡ false → outcome (read_all bs r values) ≡ bad_line
unfolding feed_all feed finish line_of
bad_stays [] r values e = rw e
bad_stays (b ∷ bs) r values e =
    ap (λ (x : Bool). outcome (let f = feed_all bs (step x).0 (step x).1 in finish f.0 f.1)) (ap not e) ∙ bad_stays bs r values e
  where
    step : Bool → Reading × List ℕ
    step x =
        let c = close r values in
        pick x (r, values) (pick (eqb b 9) (opened c.0, c.1) (pick r.naming (letter r b, values) (digit r b, values)))

-- ---- the end of the line

end_form : (full : Bool) (before : Option Word) (letters form : ℕ) (value : Option ℕ) (count : ℕ) (values : List ℕ) (w : Word) (f : ℕ) (k : Bool)
    → word_of letters ≡ Some w → form_of full before w ≡ Some f → complete f ≡ k
    → outcome (finish (st full before None letters form value count) values) ≡ after_word full before count values (Some letters) []
unfolding finish close close_word follow line_of
end_form full before letters form value count values w f true ew eo ek = rw (ew, eo, ek)
end_form full before letters form value count values w f false ew eo ek = rw (ew, eo, ek)

end_known : (full : Bool) (before : Option Word) (letters form : ℕ) (value : Option ℕ) (count : ℕ) (values : List ℕ) (w : Word) (o : Option ℕ) (m : Bool)
    → word_of letters ≡ Some w → form_of full before w ≡ o → complete form ≡ m
    → outcome (finish (st full before None letters form value count) values) ≡ after_word full before count values (Some letters) []
unfolding finish close close_word follow line_of
end_known full before letters form value count values w None true ew eo em = rw (ew, eo, em)
end_known full before letters form value count values w None false ew eo em = rw (ew, eo, em)
end_known full before letters form value count values w (Some f) m ew eo em = end_form full before letters form value count values w f (complete f) ew eo refl

end_word_lem : (full : Bool) (before : Option Word) (letters form : ℕ) (value : Option ℕ) (count : ℕ) (values : List ℕ) (o : Option Word) (m : Bool)
    → word_of letters ≡ o → complete form ≡ m
    → outcome (finish (st full before None letters form value count) values) ≡ after_word full before count values (Some letters) []
unfolding finish close close_word follow line_of
end_word_lem full before letters form value count values None true ew em = rw (ew, em)
end_word_lem full before letters form value count values None false ew em = rw (ew, em)
end_word_lem full before letters form value count values (Some w) m ew em =
    end_known full before letters form value count values w (form_of full before w) m ew refl em

end_number : (full : Bool) (before : Option Word) (w : Word) (letters form : ℕ) (value : Option ℕ) (count : ℕ) (values : List ℕ) (k m : Bool)
    → complete (rest_of form) ≡ k → complete form ≡ m
    → outcome (finish (st full before (Some w) letters form value count) values) ≡ after_number full before w form count values value []
unfolding finish close close_number follow line_of
end_number full before w letters form (Some value) count values true m ek em = rw ek
end_number full before w letters form (Some value) count values false m ek em = rw ek
end_number full before w letters form None count values k true ek em = rw em
end_number full before w letters form None count values k false ek em = rw em

-- ---- a tab

-- The law, of so many bytes.
abbrev Reads : List ℕ → Type 0
Reads bs =
    (full : Bool) (before word : Option Word) (letters form : ℕ) (value : Option ℕ) (count : ℕ) (values : List ℕ)
    → outcome (read_all bs (st full before word letters form value count) values) ≡ rest full before word letters form value count values bs

-- Behind a tab: the form of the fields to come decides.
tab_opens : (bs : List ℕ) → Reads bs → (naming full : Bool) (before : Option Word) (w : Word) (letters form : ℕ) (value : Option ℕ) (count : ℕ) (values : List ℕ) (z m : Bool)
    → eqb form 0 ≡ z → eqb form name ≡ m
    → outcome (read_all bs (opened (ended naming full before w letters form value count)) values) ≡ follow full before w form count values (head bs ∷ tail bs)
unfolding opened follow
tab_opens bs more naming full before w letters form value count values true m ez em =
    rw ez (bad_stays bs (bad (ended naming full before w letters form value count)) values refl)
tab_opens bs more naming full before w letters form value count values false true ez em = rw (ez, em) (more full (Some w) None 0 0 value count values)
tab_opens bs more naming full before w letters form value count values false false ez em =
    rw (ez, em, begun) (more full before (Some w) letters form None count values)

tab_known : (bs : List ℕ) → Reads bs → (full : Bool) (before : Option Word) (letters form : ℕ) (value : Option ℕ) (count : ℕ) (values : List ℕ) (w : Word) (o : Option ℕ)
    → word_of letters ≡ Some w → form_of full before w ≡ o
    → outcome (read_all bs (opened (close_word (st full before None letters form value count))) values)
    ≡ after_word full before count values (Some letters) (head bs ∷ tail bs)
unfolding close_word opened
tab_known bs more full before letters form value count values w None ew eo =
    rw (ew, eo) (bad_stays bs (bad (st full before None letters form value count)) values refl)
tab_known bs more full before letters form value count values w (Some f) ew eo =
    rw (ew, eo) (tab_opens bs more true full before w letters f value count values (eqb f 0) (eqb f name) refl refl)

tab_word : (bs : List ℕ) → Reads bs → (full : Bool) (before : Option Word) (letters form : ℕ) (value : Option ℕ) (count : ℕ) (values : List ℕ) (o : Option Word)
    → word_of letters ≡ o
    → outcome (read_all bs (opened (close_word (st full before None letters form value count))) values)
    ≡ after_word full before count values (Some letters) (head bs ∷ tail bs)
unfolding close_word opened
tab_word bs more full before letters form value count values None ew =
    rw ew (bad_stays bs (bad (st full before None letters form value count)) values refl)
tab_word bs more full before letters form value count values (Some w) ew =
    tab_known bs more full before letters form value count values w (form_of full before w) ew refl

tab_number : (bs : List ℕ) → Reads bs → (full : Bool) (before : Option Word) (w : Word) (letters form : ℕ) (value : Option ℕ) (count : ℕ) (values : List ℕ)
    → outcome (read_all bs (opened (close_number (st full before (Some w) letters form value count) values).0) (close_number (st full before (Some w) letters form value count) values).1)
    ≡ after_number full before w form count values value (head bs ∷ tail bs)
unfolding close_number opened
tab_number bs more full before w letters form (Some value) count values =
    tab_opens bs more false full before w letters (rest_of form) (Some value) (keep count value values).0 (keep count value values).1 (eqb (rest_of form) 0) (eqb (rest_of form) name) refl refl
tab_number bs more full before w letters form None count values = bad_stays bs (bad (st full before (Some w) letters form None count)) values refl

-- ---- a letter, a digit

letter_goes : (bs : List ℕ) → Reads bs → (full : Bool) (before : Option Word) (letters form : ℕ) (value : Option ℕ) (count : ℕ) (values : List ℕ) (b : ℕ) (g : Bool)
    → grows letters b ≡ g
    → outcome (read_all bs (letter (st full before None letters form value count) b) values)
    ≡ after_word full before count values (word_from letters (b ∷ head bs)) (tail bs)
unfolding letter word_from
letter_goes bs more full before letters form value count values b true eg = rw eg (more full before None (grown letters b) form value count values)
letter_goes bs more full before letters form value count values b false eg =
    rw eg (bad_stays bs (bad (st full before None letters form value count)) values refl)

digit_goes : (bs : List ℕ) → Reads bs → (full : Bool) (before : Option Word) (w : Word) (letters form : ℕ) (value : Option ℕ) (count : ℕ) (values : List ℕ) (b : ℕ) (o : Option ℕ)
    → grown_by (base_of (form % 16)) (most_of (form % 16)) (unwrap_or value 0) (digit_of b) ≡ o
    → outcome (read_all bs (digit (st full before (Some w) letters form value count) b) values)
    ≡ after_number full before w form count values (number_from (base_of (form % 16)) (most_of (form % 16)) (unwrap_or value 0) (b ∷ head bs)) (tail bs)
unfolding digit number_from
digit_goes bs more full before w letters form value count values b (Some next) eo =
    rw eo
    (more full before (Some w) letters form (Some next) count values
    ∙ ap (λ (o : Option ℕ). after_number full before w form count values o (tail bs)) (sym (going (base_of (form % 16)) (most_of (form % 16)) next (head bs))))
digit_goes bs more full before w letters form value count values b None eo =
    rw eo (bad_stays bs (bad (st full before (Some w) letters form value count)) values refl)

-- ---- every byte

-- What a byte leads to, and what the format says, by whether it is a tab.
abbrev led : List ℕ → Bool → Option Word → Word → ℕ → ℕ → Option ℕ → ℕ → List ℕ → ℕ → Bool → Said
led bs full before w letters form value count values b t =
    let r = st full before (Some w) letters form value count in
    let c = close_number r values in
    let s = pick {A = Reading × List ℕ} t (opened c.0, c.1) (digit r b, values) in
    outcome (read_all bs s.0 s.1)

abbrev told : List ℕ → Bool → Option Word → Word → ℕ → Option ℕ → ℕ → List ℕ → ℕ → Bool → Said
told bs full before w form value count values b t =
    after_number full before w form count values (number_on (base_of (form % 16)) (most_of (form % 16)) value (pick t [] (b ∷ head bs))) (pick t (head bs ∷ tail bs) (tail bs))

abbrev led_word : List ℕ → Bool → Option Word → ℕ → ℕ → Option ℕ → ℕ → List ℕ → ℕ → Bool → Said
led_word bs full before letters form value count values b t =
    let r = st full before None letters form value count in
    let s = pick {A = Reading × List ℕ} t (opened (close_word r), values) (letter r b, values) in
    outcome (read_all bs s.0 s.1)

abbrev told_word : List ℕ → Bool → Option Word → ℕ → ℕ → List ℕ → ℕ → Bool → Said
told_word bs full before letters count values b t =
    after_word full before count values (word_from letters (pick t [] (b ∷ head bs))) (pick t (head bs ∷ tail bs) (tail bs))

byte_read : (bs : List ℕ) → Reads bs → (full : Bool) (before word : Option Word) (letters form : ℕ) (value : Option ℕ) (count : ℕ) (values : List ℕ) (b : ℕ) (t : Bool)
    → eqb b 9 ≡ t
    → outcome (read_all (b ∷ bs) (st full before word letters form value count) values) ≡ rest full before word letters form value count values (b ∷ bs)
unfolding feed_all feed close head tail word_from
byte_read bs more full before None letters form value count values b true et =
    ap (led_word bs full before letters form value count values b) et
    ∙ tab_word bs more full before letters form value count values (word_of letters) refl
    ∙ sym (ap (told_word bs full before letters count values b) et)
byte_read bs more full before None letters form value count values b false et =
    ap (led_word bs full before letters form value count values b) et
    ∙ letter_goes bs more full before letters form value count values b (grows letters b) refl
    ∙ sym (ap (told_word bs full before letters count values b) et)
byte_read bs more full before (Some w) letters form value count values b true et =
    ap (led bs full before w letters form value count values b) et
    ∙ tab_number bs more full before w letters form value count values
    ∙ sym (ap (told bs full before w form value count values b) et)
byte_read bs more full before (Some w) letters form value count values b false et =
    ap (led bs full before w letters form value count values b) et
    ∙ digit_goes bs more full before w letters form value count values b (grown_by (base_of (form % 16)) (most_of (form % 16)) (unwrap_or value 0) (digit_of b)) refl
    ∙ sym (ap (told bs full before w form value count values b) et)

reads_from : (bs : List ℕ) → Reads bs
unfolding feed_all head tail word_from
reads_from [] full before None letters form value count values =
    end_word_lem full before letters form value count values (word_of letters) (complete form) refl refl
reads_from [] full before (Some w) letters form value count values =
    end_number full before w letters form value count values (complete (rest_of form)) (complete form) refl refl
reads_from (b ∷ bs) full before word letters form value count values =
    byte_read bs (reads_from bs) full before word letters form value count values b (eqb b 9) refl

-- The reader, fed the bytes of a line and then its end, comes to what the format says of the line.
pub reads : (full : Bool) (values bs : List ℕ) → outcome (read_all bs (start full) values) ≡ line full values bs
unfolding line follow
reads full values bs = reads_from bs full None None 0 0 None 0 values
