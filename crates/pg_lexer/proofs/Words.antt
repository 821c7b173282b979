-- The look-up of a reserved word among those with its first letter.
use Rattle.std.proofs.Common.{◌≡◌, ℕ, Bool, true, false, cond, eqb, List, [], ◌∷◌, Some, None, ⊎_elim, sym, refl, ap, ◌∙◌}
use Rattle.std.specs.Prelude.{filter, nat_eq}
use Rattle.std.specs.List.{find, starts_with}
use Rattle.std.specs.Str.{bytes_eq}
use Rattle.std.proofs.lemmas.Bool.{cases_Bool, and_from, cond-true, cond-false, eq-eqb}
use Rattle.std.proofs.lemmas.Slice.Eq.{bytes_eq-Decides}
use Rattle.pg_lexer.specs.declared.keyword.Keyword.{Keyword}
use Rattle.pg_lexer.specs.declared.keyword.Keyword.TheVariants as reserved
use Rattle.pg_lexer.specs.Keywords.{spelling, keywords, keyword_of, words_with}

-- a filter that keeps all that may be found changes nothing
find_filter : (p q : Keyword → Bool) → ((k : Keyword) → p k ≡ true → q k ≡ true) → (ks : List Keyword) → find p (filter q ks) ≡ find p ks
find_filter p q keeps [] = refl
find_filter p q keeps (k ∷ ks) = ⊎_elim
    (λ kept. ap (find p) (cond-true (q k) _ _ kept) ∙ ap (cond (p k) (Some k)) (find_filter p q keeps ks))
    (λ left.
    let other : p k ≡ false = ⊎_elim (λ found. let kept = keeps k found in cc) (λ fail. fail) (cases_Bool (p k)) in
    ap (find p) (cond-false (q k) _ _ left) ∙ find_filter p q keeps ks ∙ sym (cond-false (p k) _ _ other))
    (cases_Bool (q k))

same_first : (word : List ℕ) (first : ℕ) (rest : List ℕ) (k : Keyword) → word ≡ first ∷ rest → bytes_eq (spelling k) word ≡ true
    → starts_with nat_eq (spelling k) (first ∷ []) ≡ true
same_first word first rest k split same =
    let spelled : spelling k ≡ first ∷ rest = (bytes_eq-Decides (spelling k) word).0 same ∙ split in
    rw spelled (and_from (eqb first first) true (eq-eqb first first refl) refl)

pub keyword_at : (word : List ℕ) (first : ℕ) (rest : List ℕ) → word ≡ first ∷ rest
    → find (λ k. bytes_eq (spelling k) word) (words_with first) ≡ keyword_of word
unfolding keyword_of words_with
keyword_at word first rest split =
    find_filter (λ k. bytes_eq (spelling k) word) (λ k. starts_with nat_eq (spelling k) (first ∷ [])) (λ k same. same_first word first rest k split same) keywords

pub no_empty_keyword : keyword_of [] ≡ None
unfolding keyword_of keywords spelling
no_empty_keyword = refl

-- each reserved word is found by its spelling
found_by_spelling : (k : Keyword) → keyword_of (spelling k) ≡ Some k
unfolding keyword_of keywords spelling
found_by_spelling reserved.Abort = refl
found_by_spelling reserved.And = refl
found_by_spelling reserved.As = refl
found_by_spelling reserved.Asc = refl
found_by_spelling reserved.Begin = refl
found_by_spelling reserved.Bigint = refl
found_by_spelling reserved.Bool = refl
found_by_spelling reserved.Boolean = refl
found_by_spelling reserved.By = refl
found_by_spelling reserved.Check = refl
found_by_spelling reserved.Commit = refl
found_by_spelling reserved.Committed = refl
found_by_spelling reserved.Conflict = refl
found_by_spelling reserved.Constraint = refl
found_by_spelling reserved.Create = refl
found_by_spelling reserved.Default = refl
found_by_spelling reserved.Delete = refl
found_by_spelling reserved.Desc = refl
found_by_spelling reserved.Distinct = refl
found_by_spelling reserved.Do = refl
found_by_spelling reserved.End = refl
found_by_spelling reserved.False = refl
found_by_spelling reserved.First = refl
found_by_spelling reserved.For = refl
found_by_spelling reserved.From = refl
found_by_spelling reserved.Index = refl
found_by_spelling reserved.Inner = refl
found_by_spelling reserved.Insert = refl
found_by_spelling reserved.Int = refl
found_by_spelling reserved.Integer = refl
found_by_spelling reserved.Into = refl
found_by_spelling reserved.Is = refl
found_by_spelling reserved.Isolation = refl
found_by_spelling reserved.Join = refl
found_by_spelling reserved.Key = refl
found_by_spelling reserved.Last = refl
found_by_spelling reserved.Level = refl
found_by_spelling reserved.Limit = refl
found_by_spelling reserved.Locked = refl
found_by_spelling reserved.Matched = refl
found_by_spelling reserved.Merge = refl
found_by_spelling reserved.No = refl
found_by_spelling reserved.Not = refl
found_by_spelling reserved.Nothing = refl
found_by_spelling reserved.Nowait = refl
found_by_spelling reserved.Null = refl
found_by_spelling reserved.Nulls = refl
found_by_spelling reserved.Of = refl
found_by_spelling reserved.On = refl
found_by_spelling reserved.Or = refl
found_by_spelling reserved.Order = refl
found_by_spelling reserved.Primary = refl
found_by_spelling reserved.Read = refl
found_by_spelling reserved.Returning = refl
found_by_spelling reserved.Rollback = refl
found_by_spelling reserved.Select = refl
found_by_spelling reserved.Set = refl
found_by_spelling reserved.Share = refl
found_by_spelling reserved.Skip = refl
found_by_spelling reserved.Source = refl
found_by_spelling reserved.Table = refl
found_by_spelling reserved.Target = refl
found_by_spelling reserved.Text = refl
found_by_spelling reserved.Then = refl
found_by_spelling reserved.Transaction = refl
found_by_spelling reserved.True = refl
found_by_spelling reserved.Unique = refl
found_by_spelling reserved.Update = refl
found_by_spelling reserved.Using = refl
found_by_spelling reserved.Values = refl
found_by_spelling reserved.When = refl
found_by_spelling reserved.Where = refl
found_by_spelling reserved.Work = refl

-- what is found has the spelling that was looked for
found_has_spelling : (word : List ℕ) (k : Keyword) (ks : List Keyword) → find (λ j. bytes_eq (spelling j) word) ks ≡ Some k → word ≡ spelling k
found_has_spelling word k [] e = cc
found_has_spelling word k (j ∷ ks) e = ⊎_elim
    (λ same.
    let first : Some j ≡ Some k = sym (cond-true (bytes_eq (spelling j) word) (Some j) (find (λ i. bytes_eq (spelling i) word) ks) same) ∙ e in
    let is : j ≡ k = cc in
    sym ((bytes_eq-Decides (spelling j) word).0 same) ∙ ap spelling is)
    (λ other. found_has_spelling word k ks (sym (cond-false (bytes_eq (spelling j) word) (Some j) (find (λ i. bytes_eq (spelling i) word) ks) other) ∙ e))
    (cases_Bool (bytes_eq (spelling j) word))

pub spelled : (k : Keyword) (word : List ℕ) → (keyword_of word ≡ Some k → word ≡ spelling k) × (word ≡ spelling k → keyword_of word ≡ Some k)
unfolding keyword_of
spelled k word = (λ e. found_has_spelling word k keywords e, λ e. ap keyword_of e ∙ found_by_spelling k)
