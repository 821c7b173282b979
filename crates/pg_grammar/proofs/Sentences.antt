-- From a part to all of the tokens.
use Rattle.std.proofs.Common.{◌≡◌, Bool, true, List, [], ◌∷◌, ◌++◌, Option, Some, None, refl, sym, ap, ◌∙◌, subst}
use Rattle.std.proofs.lemmas.Bool.{false≢true}
use Rattle.pg_grammar.specs.Languages.{Lang}
use Rattle.pg_grammar.specs.Answers.{next, Seen, read, failed, IsRead, Reads, ends, ReadsWhole, whole_of}
use Rattle.pg_grammar.proofs.Leading.{reads_narrow}

ends_follows : {T : Type 0} (follows : Option T → Bool) → follows None ≡ true → (o : Option T) → ends o ≡ true →
    follows o ≡ true
ends_follows follows h None e = h
ends_follows follows h (Some t) e = absurd (false≢true e)

-- where the end may stand behind a word, an answer for a part is one for the whole
pub reads_whole : {T V : Type 0} (L : Lang T V) (follows : Option T → Bool) (xs : List T) (o : Seen T V) →
    follows None ≡ true → Reads L follows xs o → ReadsWhole L xs (whole_of o)
reads_whole {T} {V} L follows xs (read v []) h r = record {
  is = record {
    spelled = subst (λ s. L (λ k. 0) s v []) same (f.spelled (λ k. 0) []);
    only = λ m v' l. (f.only m [] [] v' refl (subst (λ s. L m s v' []) (sym same) l) h).0;
  };
}
  where
    f : IsRead L follows xs v []
    f = r.is

    same : f.front ++ [] ≡ xs
    same = sym f.split
reads_whole {T} {V} L follows xs (read v (t ∷ rest)) h r = record {
  is = record {
    front = f.front;
    rest = t ∷ rest;
    split = f.split;
    left = refl;
    tail = [];
    value = v;
    goes_on = λ k o. absurd (cc o);
    completed = λ m z w. f.spelled m z;
    none = λ m z z' v' o s l c.
        let same = (f.only m z z' v' s l (ends_follows follows h (next z') c)).1 in
        let stands : next z' ≡ Some t = ap next same ∙ s in
        false≢true (subst (λ x. ends x ≡ true) stands c);
  };
}
  where
    f : IsRead L follows xs v (t ∷ rest)
    f = r.is
reads_whole L follows xs (failed e) h r = record { is = (reads_narrow L follows ends xs (failed e) (ends_follows follows h) r).is }
