-- Writes in a row, as one write of all their bytes.
use Rattle.std.proofs.Common.{◌≡◌, ℕ, ◌+◌, ◌-◌, List, ◌++◌, length, take, drop, sym, ◌∙◌, ap, None, Some, append_assoc}
use Rattle.std.proofs.Math.Seq.{take-add, take-length}
use Rattle.std.proofs.lemmas.List.{length-drop}
use Rattle.std.specs.declared.option.Option.{Option}
use Rattle.std.specs.Io.KnownBytes.{Appends}

-- the rest of a text, as a range of it
pub take-rest : (text : List ℕ) (at : ℕ) → take (length text - at) (drop at text) ≡ drop at text
take-rest text at = rw (← length-drop at text) (take-length (drop at text))

-- a front of a text was appended, and then a front of the rest
pub appends_more : (before between now : Option (List ℕ)) (text : List ℕ) (at count : ℕ) → Appends before between (take at text) → Appends between now (take count (take (length text - at) (drop at text))) → Appends before now (take (at + count) text)
appends_more None between now text at count first then = tt
appends_more (Some xs) None now text at count first then = absurd first
appends_more (Some xs) (Some ys) None text at count first then = absurd then
appends_more (Some xs) (Some ys) (Some zs) text at count first then =
    then ∙ ap (λ rest. ys ++ take count rest) (take-rest text at)
    ∙ ap (λ front. front ++ take count (drop at text)) first
    ∙ append_assoc xs (take at text) (take count (drop at text))
    ∙ ap (λ front. xs ++ front) (sym (take-add at count text))
