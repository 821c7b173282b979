-- A draft has the parts that the lines so far say, and keeps them with one line more.
use Rattle.std.proofs.Common.{append-nil, ◌≡◌, refl, sym, ◌∙◌, ap, ℕ, suc, ◌+◌, Bool, true, false, not, ◌||◌, ◌&&◌, cond, List, [], ◌∷◌, ◌++◌, length, Some, Ok, Err, filter_map, inl, inr}
use Rattle.std.specs.Prelude.{◌⊎◌, option_to_list}
use Rattle.std.specs.List.{AllByRecursion, list_any}
use Rattle.pg_model.specs.declared.script.Mode.{Mode}
use Rattle.pg_line.specs.declared.form.LineForm.{LineForm}
use Rattle.pg_line.specs.declared.form.LineForm.TheVariants as form
use Rattle.pg_analyse.specs.Analysis.{declaration}
use Rattle.pg_script.specs.declared.draft.Draft.{Draft}
use Rattle.pg_script.specs.Drafts.{IsDraftOf, early_reasons, is_other, with_name, with_names}
use Rattle.pg_script.specs.Parts.{catalogue_of, line_in, lines_of, numbered_from, session_names, sessions_of, setup_in, setup_rows_of}
use Rattle.pg_script.specs.Reading.{AreFine}
use Rattle.pg_script.specs.Reasons.{fault_reasons, is_misplaced, is_of_setup, is_setup, reasons_of, setup_reasons}
use Rattle.pg_script.proofs.Firsts.{left_none, not_told, right_none}
use Rattle.pg_script.proofs.Held.{catalogue_more, filter_map_more, numbered_more, others_more, sessions_more}
use Rattle.pg_script.proofs.Settled.{Known, Settled, gives_none, lines_stay, rows_stay, setup_stays, tables_follow}
use Rattle.pg_script.proofs.Appearances.{number_new, number_step}
use Rattle.pg_names.specs.Names.{is_among, number_of}
use Rattle.std.specs.Str.{bytes_eq}

-- the reasons that a draft tells are those that count behind its lines
pub reasons_are : (mode : Mode) (forms : List LineForm) (draft : Draft) (line : LineForm) → IsDraftOf mode forms draft →
    early_reasons draft line ++ setup_reasons draft.catalogue line ≡ reasons_of mode forms line
reasons_are mode forms draft line is =
    rw (is.mode_is, is.past_setup, is.sessions, is.catalogue, ← sessions_more forms line) refl

not_false : (b : Bool) → not b ≡ false → b ≡ true
not_false true is = refl
not_false false is = absurd (cc)

-- a line that is not refused has a statement that may stand there, without an error
pub settled_now : (draft : Draft) (line : LineForm) → early_reasons draft line ≡ [] →
    setup_reasons draft.catalogue line ≡ [] → Settled draft.catalogue line
settled_now draft line early late =
    let placed : is_misplaced line ≡ false = not_told _ _ (right_none _ _ (left_none _ _ early)) in
    at line placed late
  where
    at : (l : LineForm) → is_misplaced l ≡ false → setup_reasons draft.catalogue l ≡ [] → Settled draft.catalogue l
    at (form.Setup (Ok tree)) misplaced fine =
        (not_false (is_of_setup tree) misplaced, right_none (fault_reasons (declaration draft.catalogue tree)) _ fine)
    at (form.Setup (Err fault)) misplaced fine = tt
    at form.Comment misplaced fine = tt
    at (form.Given session tree) misplaced fine = tt
    at (form.Pause session label) misplaced fine = tt
    at (form.Go session) misplaced fine = tt
    at (form.Cut session) misplaced fine = tt
    at form.Unknown misplaced fine = tt

-- a list with one item more, cut somewhere: at that item, or before it
pub cut_more : (xs before after : List LineForm) (x y : LineForm) → xs ++ x ∷ [] ≡ before ++ y ∷ after →
    ((xs ≡ before) × (x ≡ y)) ⊎ ((others : List LineForm) × (xs ≡ before ++ y ∷ others))
cut_more [] [] after x y is = let same : x ≡ y = cc in inl (refl, same)
cut_more [] (b ∷ []) after x y is = absurd (cc)
cut_more [] (b ∷ c ∷ bs) after x y is = absurd (cc)
cut_more (z ∷ zs) [] after x y is = let same : z ≡ y = cc in inr (zs, ap (λ w. w ∷ zs) same)
cut_more (z ∷ zs) (b ∷ bs) after x y is =
    let first : z ≡ b = cc in
    let rest : zs ++ x ∷ [] ≡ bs ++ y ∷ after = cc in
    at first (cut_more zs bs after x y rest)
  where
    at : z ≡ b → ((zs ≡ bs) × (x ≡ y)) ⊎ ((others : List LineForm) × (zs ≡ bs ++ y ∷ others)) →
        ((z ∷ zs ≡ b ∷ bs) × (x ≡ y)) ⊎ ((others : List LineForm) × (z ∷ zs ≡ b ∷ bs ++ y ∷ others))
    at first (inl same) = inl (ap (λ w. w ∷ zs) first ∙ ap (λ l. b ∷ l) same.0, same.1)
    at first (inr (others, same)) = inr (others, ap (λ w. w ∷ zs) first ∙ ap (λ l. b ∷ l) same)

-- lines stay fine with one more that is not refused
pub fine_more : (mode : Mode) (forms : List LineForm) (line : LineForm) → AreFine mode forms →
    reasons_of mode forms line ≡ [] → AreFine mode (forms ++ line ∷ [])
fine_more mode forms line fine none before after other split = at (cut_more forms before after line other split)
  where
    at : ((forms ≡ before) × (line ≡ other)) ⊎ ((others : List LineForm) × (forms ≡ before ++ other ∷ others)) →
        reasons_of mode before other ≡ []
    at (inl same) = rw (← same.0, ← same.1) none
    at (inr (others, same)) = fine before others other same

-- all items and one more
pub all_more : {X : Type 0} (P : X → Type 0) (xs : List X) (x : X) → AllByRecursion P xs → P x →
    AllByRecursion P (xs ++ x ∷ [])
all_more P [] x all is = (is, tt)
all_more P (y ∷ ys) x all is = (all.0, all_more P ys x all.1 is)

-- a name has a number once it stands among the sessions
found : (names : List (List ℕ)) (name : List ℕ) → is_among names name ≡ true →
    (number : ℕ) × (number_of names name ≡ Some number)
found [] name is = absurd (cc)
found (x ∷ xs) name is = at (bytes_eq name x) refl is (λ among. found xs name among)
  where
    at : (b : Bool) → bytes_eq name x ≡ b → (b || is_among xs name) ≡ true →
        (is_among xs name ≡ true → (number : ℕ) × (number_of xs name ≡ Some number)) →
        (number : ℕ) × (number_of (x ∷ xs) name ≡ Some number)
    at true e among rest = (0, number_step x xs name ∙ rw e refl)
    at false e among rest =
        let behind = rest among in
        (suc behind.0, number_step x xs name ∙ rw (e, behind.1) refl)

-- sessions only follow, and the one that is named has a number
pub name_follows : (names : List (List ℕ)) (name : List ℕ) →
    ((more : List (List ℕ)) × (with_name names name ≡ names ++ more))
    × ((number : ℕ) × (number_of (with_name names name) name ≡ Some number))
name_follows names name = at (is_among names name) refl
  where
    at : (b : Bool) → is_among names name ≡ b →
        ((more : List (List ℕ)) × (cond b names (names ++ name ∷ []) ≡ names ++ more))
        × ((number : ℕ) × (number_of (cond b names (names ++ name ∷ [])) name ≡ Some number))
    at true e = (([], sym (append-nil names)), found names name e)
    at false e = ((name ∷ [], refl), (length names, number_new names name e))

-- the sessions behind a line: those before it, and its own has a number
pub sessions_follow : (sessions : List (List ℕ)) (line : LineForm) →
    ((more : List (List ℕ)) × (with_names sessions (session_names line) ≡ sessions ++ more))
    × Known (with_names sessions (session_names line)) line
sessions_follow sessions form.Comment = (([], sym (append-nil sessions)), tt)
sessions_follow sessions (form.Setup tree) = (([], sym (append-nil sessions)), tt)
sessions_follow sessions (form.Given session tree) =
    let both = name_follows sessions session.name in (both.0, (both.1, tt))
sessions_follow sessions (form.Pause session label) =
    let both = name_follows sessions session.name in (both.0, (both.1, tt))
sessions_follow sessions (form.Go session) =
    let both = name_follows sessions session.name in (both.0, (both.1, tt))
sessions_follow sessions (form.Cut session) =
    let both = name_follows sessions session.name in (both.0, (both.1, tt))
sessions_follow sessions form.Unknown = (([], sym (append-nil sessions)), tt)

-- the INSERTs of setup lines, with one line more
pub rows_more : (forms : List LineForm) (line : LineForm) → AllByRecursion (Settled (catalogue_of forms)) forms →
    Settled (catalogue_of forms) line →
    setup_rows_of (forms ++ line ∷ [])
    ≡ setup_rows_of forms ++ option_to_list (setup_in (catalogue_of forms) (length forms + 2) line)
rows_more forms line all settled =
    let follow = tables_follow (catalogue_of forms) line in
    let tables : catalogue_of (forms ++ line ∷ []) ≡ catalogue_of forms ++ follow.0 = catalogue_more forms line ∙ follow.1 in
    ap (λ c. filter_map (λ l. setup_in c l.number l.form) (numbered_from 2 (forms ++ line ∷ []))) tables
    ∙ ap (filter_map (λ l. setup_in (catalogue_of forms ++ follow.0) l.number l.form)) (numbered_more 2 forms line)
    ∙ filter_map_more (λ l. setup_in (catalogue_of forms ++ follow.0) l.number l.form) (numbered_from 2 forms) (record { number = length forms + 2; form = line })
    ∙ ap (λ rows. rows ++ option_to_list (setup_in (catalogue_of forms ++ follow.0) (length forms + 2) line)) (rows_stay (catalogue_of forms) follow.0 2 forms all)
    ∙ ap (λ row. setup_rows_of forms ++ option_to_list row) (setup_stays (catalogue_of forms) follow.0 (length forms + 2) line settled)

-- what lines give to sessions, with one line more over the same tables
given_more : (forms : List LineForm) (line : LineForm) → catalogue_of (forms ++ line ∷ []) ≡ catalogue_of forms →
    AllByRecursion (Known (sessions_of forms)) forms →
    lines_of (forms ++ line ∷ [])
    ≡ lines_of forms ++ option_to_list (line_in (sessions_of (forms ++ line ∷ [])) (catalogue_of forms) (length forms + 2) line)
given_more forms line tables all =
    let follow = (sessions_follow (sessions_of forms) line).0 in
    let sessions : sessions_of (forms ++ line ∷ []) ≡ sessions_of forms ++ follow.0 = sessions_more forms line ∙ follow.1 in
    ap (λ c. filter_map (λ l. line_in (sessions_of (forms ++ line ∷ [])) c l.number l.form) (numbered_from 2 (forms ++ line ∷ []))) tables
    ∙ ap (filter_map (λ l. line_in (sessions_of (forms ++ line ∷ [])) (catalogue_of forms) l.number l.form)) (numbered_more 2 forms line)
    ∙ filter_map_more (λ l. line_in (sessions_of (forms ++ line ∷ [])) (catalogue_of forms) l.number l.form) (numbered_from 2 forms) (record { number = length forms + 2; form = line })
    ∙ ap (λ lines. lines ++ option_to_list (line_in (sessions_of (forms ++ line ∷ [])) (catalogue_of forms) (length forms + 2) line))
    (ap (λ s. filter_map (λ l. line_in s (catalogue_of forms) l.number l.form) (numbered_from 2 forms)) sessions
    ∙ lines_stay (sessions_of forms) follow.0 (catalogue_of forms) 2 forms all)

-- a setup line gives nothing, and stands behind lines that give nothing
setup_gives : (forms : List LineForm) (tree : _) → list_any is_other forms ≡ false →
    lines_of (forms ++ form.Setup tree ∷ []) ≡ lines_of forms ++ []
setup_gives forms tree none =
    gives_none (sessions_of (forms ++ form.Setup tree ∷ [])) (catalogue_of (forms ++ form.Setup tree ∷ [])) 2 (forms ++ form.Setup tree ∷ [])
    (others_more forms (form.Setup tree) ∙ rw none refl)
    ∙ sym (append-nil (lines_of forms) ∙ gives_none (sessions_of forms) (catalogue_of forms) 2 forms none)

-- what lines give to sessions, with one line more that may stand there
pub lines_more : (forms : List LineForm) (line : LineForm) → (is_setup line && list_any is_other forms) ≡ false →
    AllByRecursion (Known (sessions_of forms)) forms →
    lines_of (forms ++ line ∷ [])
    ≡ lines_of forms ++ option_to_list (line_in (sessions_of (forms ++ line ∷ [])) (catalogue_of forms) (length forms + 2) line)
lines_more forms (form.Setup tree) order all = setup_gives forms tree order
lines_more forms form.Comment order all = given_more forms form.Comment (catalogue_more forms form.Comment) all
lines_more forms (form.Given session tree) order all = given_more forms (form.Given session tree) (catalogue_more forms (form.Given session tree)) all
lines_more forms (form.Pause session label) order all = given_more forms (form.Pause session label) (catalogue_more forms (form.Pause session label)) all
lines_more forms (form.Go session) order all = given_more forms (form.Go session) (catalogue_more forms (form.Go session)) all
lines_more forms (form.Cut session) order all = given_more forms (form.Cut session) (catalogue_more forms (form.Cut session)) all
lines_more forms form.Unknown order all = given_more forms form.Unknown (catalogue_more forms form.Unknown) all
