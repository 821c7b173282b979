-- What lines say together, and one line more behind them.
use Rattle.std.proofs.Common.{append-nil, arith, ◌≡◌, refl, sym, ◌∙◌, ap, ℕ, suc, ◌+◌, Bool, true, false, ◌||◌, List, [], ◌∷◌, ◌++◌, length, Option, Some, None, flat_map, filter_map}
use Rattle.std.specs.Prelude.{option_to_list}
use Rattle.std.specs.List.{cons_option, list_any}
use Rattle.pg_model.specs.declared.catalogue.TableShape.{TableShape}
use Rattle.pg_line.specs.declared.form.LineForm.{LineForm}
use Rattle.pg_line.specs.declared.form.LineForm.TheVariants as form
use Rattle.pg_script.specs.Appearances.{first_appearances}
use Rattle.pg_script.specs.Drafts.{is_other, with_name, with_names}
use Rattle.pg_script.specs.Parts.{catalogue_of, numbered_from, session_names, sessions_of, tables_behind, tables_from}
use Rattle.pg_script.proofs.Appearances.{appearances_more}

-- one line more, numbered
pub numbered_more : (number : ℕ) (forms : List LineForm) (line : LineForm) →
    numbered_from number (forms ++ line ∷ [])
    ≡ numbered_from number forms ++ record { number = length forms + number; form = line } ∷ []
numbered_more number [] line =
    let same : number ≡ 0 + number = omega arith in ap (λ n. record { number = n; form = line } ∷ []) same
numbered_more number (form ∷ forms) line =
    let same : length forms + suc number ≡ suc (length forms) + number = omega arith in
    ap (λ lines. record { number = number; form = form } ∷ lines)
    (numbered_more (suc number) forms line
    ∙ ap (λ n. numbered_from (suc number) forms ++ record { number = n; form = line } ∷ []) same)

-- what a test gives of items and of one more
pub filter_map_more : {X Y : Type 0} (f : X → Option Y) (xs : List X) (x : X) →
    filter_map f (xs ++ x ∷ []) ≡ filter_map f xs ++ option_to_list (f x)
filter_map_more {Y = Y} f [] x = at (f x)
  where
    at : (y : Option Y) → cons_option y [] ≡ option_to_list y
    at None = refl
    at (Some y) = refl
filter_map_more {Y = Y} f (z ∷ zs) x = at (f z) (filter_map_more f zs x)
  where
    at : (y : Option Y) → filter_map f (zs ++ x ∷ []) ≡ filter_map f zs ++ option_to_list (f x) →
        cons_option y (filter_map f (zs ++ x ∷ [])) ≡ cons_option y (filter_map f zs) ++ option_to_list (f x)
    at None rest = rest
    at (Some y) rest = ap (λ ys. y ∷ ys) rest

flat_map_more : (forms : List LineForm) (line : LineForm) →
    flat_map session_names (forms ++ line ∷ []) ≡ flat_map session_names forms ++ session_names line
flat_map_more [] line = append-nil _
flat_map_more (form ∷ forms) line =
    ap (λ names. session_names form ++ names) (flat_map_more forms line)
    ∙ sym (append_assoc (session_names form) (flat_map session_names forms) (session_names line))
  where
    append_assoc : (xs ys zs : List (List ℕ)) → (xs ++ ys) ++ zs ≡ xs ++ (ys ++ zs)
    append_assoc [] ys zs = refl
    append_assoc (x ∷ xs) ys zs = ap (λ l. x ∷ l) (append_assoc xs ys zs)

-- the sessions that lines name, and one line more
pub sessions_more : (forms : List LineForm) (line : LineForm) →
    sessions_of (forms ++ line ∷ []) ≡ with_names (sessions_of forms) (session_names line)
sessions_more forms line = ap first_appearances (flat_map_more forms line) ∙ at line
  where
    one : (name : List ℕ) →
        first_appearances (flat_map session_names forms ++ name ∷ []) ≡ with_name (sessions_of forms) name
    one name = appearances_more (flat_map session_names forms) name

    none : first_appearances (flat_map session_names forms ++ []) ≡ sessions_of forms
    none = ap first_appearances (append-nil _)

    at : (l : LineForm) →
        first_appearances (flat_map session_names forms ++ session_names l) ≡ with_names (sessions_of forms) (session_names l)
    at form.Comment = none
    at (form.Setup tree) = none
    at (form.Given session tree) = one session.name
    at (form.Pause session label) = one session.name
    at (form.Go session) = one session.name
    at (form.Cut session) = one session.name
    at form.Unknown = none

-- the tables that lines declare, and one line more
tables_more : (catalogue : List TableShape) (forms : List LineForm) (line : LineForm) →
    tables_from catalogue (forms ++ line ∷ []) ≡ tables_behind (tables_from catalogue forms) line
tables_more catalogue [] line = refl
tables_more catalogue (form ∷ forms) line = tables_more (tables_behind catalogue form) forms line

pub catalogue_more : (forms : List LineForm) (line : LineForm) →
    catalogue_of (forms ++ line ∷ []) ≡ tables_behind (catalogue_of forms) line
catalogue_more forms line = tables_more [] forms line

-- whether one of the lines is neither of setup nor a comment, and one line more
pub others_more : (forms : List LineForm) (line : LineForm) →
    list_any is_other (forms ++ line ∷ []) ≡ (list_any is_other forms || is_other line)
others_more [] line = at (is_other line)
  where
    at : (b : Bool) → (b || false) ≡ b
    at true = refl
    at false = refl
others_more (form ∷ forms) line = at (is_other form) (others_more forms line)
  where
    at : (b : Bool) → list_any is_other (forms ++ line ∷ []) ≡ (list_any is_other forms || is_other line) →
        (b || list_any is_other (forms ++ line ∷ [])) ≡ ((b || list_any is_other forms) || is_other line)
    at true rest = refl
    at false rest = rest
