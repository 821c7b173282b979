-- Entries, told apart by their lines.
use Rattle.std.proofs.Common.{arith, ◌≡◌, refl, sym, ◌∙◌, ap, ap₂, append_assoc, ℕ, suc, ◌<◌, ◌&&◌, Bool, true, false, true≢false, List, [], ◌∷◌, ◌++◌, codes, decimal, length, map, nat_le}
use Rattle.std.specs.List.{list_all}
use Rattle.std.proofs.lemmas.Fmt.{decimal_injective}
use Rattle.std.proofs.lemmas.List.{append_cancel_left, append_cancel_right}
use Rattle.pg_multi.specs.declared.strength.Strength.{Strength}
use Rattle.pg_multi.specs.declared.strength.Strength.TheVariants.{KeyShare, NoKeyUpdate, Share, Update}
use Rattle.pg_names.specs.Names.{are_distinct, is_digit}
use Rattle.pg_model.specs.declared.catalogue.TableShape.{TableShape}
use Rattle.pg_model.specs.declared.journal.Entry.{Entry}
use Rattle.pg_model.specs.declared.journal.EntryAct.{EntryAct}
use Rattle.pg_model.specs.declared.journal.EntryAct.TheVariants as act
use Rattle.pg_model.specs.declared.journal.Reply.{Reply}
use Rattle.pg_model.specs.declared.script.Script.{Script}
use Rattle.pg_model.specs.Limits.{is_written, most_tables}
use Rattle.pg_model.specs.Printed.{act_words, session_name, table_name}
use Rattle.pg_model.specs.Statements.{is_catalogue, is_shape}
use Rattle.pg_model.specs.Texts.{strength_text, tag_text}
use Rattle.pg_print.specs.Laws.{AreWidened, IsActOf, IsNumber, IsTag, OneEntryForEachLine}
use Rattle.pg_print.proofs.Failures.{error_same}
use Rattle.pg_print.proofs.Fronts.{apart, decimal_all, fronts}
use Rattle.pg_print.proofs.Named.{name_at_holds, name_front, one_number, shapes_written}
use Rattle.pg_print.proofs.Rows.{digit_is, rows_same, rows_text, tag_front}

-- the names of the tables can be written and differ
abbrev pub AreNames : List (List ℕ) → Type 0
AreNames names = (list_all is_written names ≡ true) × (are_distinct names ≡ true)

length_map : {X Y : Type 0} (f : X → Y) (xs : List X) → length (map f xs) ≡ length xs
length_map f [] = refl
length_map f (x ∷ xs) = ap suc (length_map f xs)

second_of_three : (a b c : Bool) → (a && b && c) ≡ true → b ≡ true
second_of_three true true c e = refl
second_of_three true false c e = e
second_of_three false b c e = absurd (true≢false (sym e))

third_of_three : (a b c : Bool) → (a && b && c) ≡ true → c ≡ true
third_of_three true true c e = e
third_of_three true false c e = absurd (true≢false (sym e))
third_of_three false b c e = absurd (true≢false (sym e))

catalogue_names : (catalogue : List TableShape) → is_catalogue catalogue ≡ true →
    AreNames (map (λ shape. shape.name) catalogue)
catalogue_names catalogue is = (
  shapes_written catalogue (third_of_three (nat_le (length catalogue) most_tables)
      (are_distinct (map (λ shape. shape.name) catalogue)) (list_all is_shape catalogue) is),
  second_of_three (nat_le (length catalogue) most_tables) (are_distinct (map (λ shape. shape.name) catalogue))
      (list_all is_shape catalogue) is,
)

-- a table's name and a row's number
on_row_same : (script : Script) (t u m n : ℕ) → AreNames (map (λ shape. shape.name) script.catalogue) →
    t < length script.catalogue → u < length script.catalogue → IsNumber m → IsNumber n →
    table_name script t ++ codes " " ++ decimal m ≡ table_name script u ++ codes " " ++ decimal n →
    (t ≡ u) × (m ≡ n)
on_row_same script t u m n names wt wu sm sn e =
    let many : length (map (λ shape. shape.name) script.catalogue) ≡ length script.catalogue = length_map _ _ in
    let ended = name_front (table_name script t) (table_name script u) (decimal m) (decimal n)
    (name_at_holds (map (λ shape. shape.name) script.catalogue) t names.0)
    (name_at_holds (map (λ shape. shape.name) script.catalogue) u names.0) e in (
      one_number (map (λ shape. shape.name) script.catalogue) t u names.1 (omega (arith, many, wt)) (omega (arith, many, wu))
          ended.0,
      decimal_injective m n sm sn ended.1,
    )

strength_same : (a b : Strength) → strength_text a ≡ strength_text b → a ≡ b
strength_same KeyShare KeyShare e = refl
strength_same Share Share e = refl
strength_same NoKeyUpdate NoKeyUpdate e = refl
strength_same Update Update e = refl
strength_same a b e = absurd (apart 1 (strength_text a) (strength_text b) e refl)

-- a row's number and a strength
strength_front : (m n : ℕ) (a b : Strength) → IsNumber m → IsNumber n →
    decimal m ++ 32 ∷ strength_text a ≡ decimal n ++ 32 ∷ strength_text b → (m ≡ n) × (a ≡ b)
strength_front m n a b sm sn e =
    let ended = fronts is_digit (decimal m) (decimal n) (32 ∷ strength_text a) (32 ∷ strength_text b)
    (decimal_all is_digit digit_is m sm) (decimal_all is_digit digit_is n sn) refl refl e in
    (decimal_injective m n sm sn ended.0, strength_same a b (append_cancel_left (codes " ") _ _ ended.1))

-- what stands behind a table's name
behind_name : (x s t : List ℕ) → (x ++ codes " " ++ s) ++ codes " " ++ t ≡ x ++ codes " " ++ (s ++ 32 ∷ t)
behind_name x s t =
    append_assoc (x ++ codes " " ++ s) (codes " ") t ∙ append_assoc (x ++ codes " ") s (32 ∷ t)

-- a table's name, a row's number and a strength
locked_same : (script : Script) (t u m n : ℕ) (a b : Strength) → AreNames (map (λ shape. shape.name) script.catalogue) →
    t < length script.catalogue → u < length script.catalogue → IsNumber m → IsNumber n →
    (table_name script t ++ codes " " ++ decimal m) ++ codes " " ++ strength_text a
    ≡ (table_name script u ++ codes " " ++ decimal n) ++ codes " " ++ strength_text b →
    act.Locked t m a ≡ act.Locked u n b
locked_same script t u m n a b names wt wu sm sn e =
    let many : length (map (λ shape. shape.name) script.catalogue) ≡ length script.catalogue = length_map _ _ in
    let ended = name_front (table_name script t) (table_name script u) (decimal m ++ 32 ∷ strength_text a)
    (decimal n ++ 32 ∷ strength_text b)
    (name_at_holds (map (λ shape. shape.name) script.catalogue) t names.0)
    (name_at_holds (map (λ shape. shape.name) script.catalogue) u names.0)
    (sym (behind_name (table_name script t) (decimal m) (strength_text a)) ∙ e
    ∙ behind_name (table_name script u) (decimal n) (strength_text b)) in
    let behind = strength_front m n a b sm sn ended.1 in
    ap₂ (λ table row. act.Locked table row a)
    (one_number (map (λ shape. shape.name) script.catalogue) t u names.1 (omega (arith, many, wt)) (omega (arith, many, wu))
    ended.0)
    behind.0
    ∙ ap (act.Locked u n) behind.1

reply_same : (x y : Reply) → IsTag x.tag → IsTag y.tag → AreWidened x.rows → AreWidened y.rows →
    tag_text x.tag ++ rows_text x.rows ≡ tag_text y.tag ++ rows_text y.rows → x ≡ y
reply_same x y tx ty wx wy e =
    let ended = tag_front x.tag y.tag x.rows y.rows tx ty e in
    ap₂ (λ tag rows. let reply : Reply = record { tag = tag; rows = rows } in reply) ended.0
    (rows_same x.rows y.rows wx wy ended.1)

act_same : (script : Script) (a b : EntryAct) → are_distinct script.sessions ≡ true →
    AreNames (map (λ shape. shape.name) script.catalogue) →
    IsActOf (length script.sessions) (length script.catalogue) a →
    IsActOf (length script.sessions) (length script.catalogue) b →
    act_words script a ≡ act_words script b → a ≡ b
act_same script (act.Snapped m) (act.Snapped n) distinct names fa fb e =
    ap act.Snapped (decimal_injective m n fa fb (append_cancel_left (codes "snapped ") _ _ e))
act_same script (act.Found m) (act.Found n) distinct names fa fb e =
    ap act.Found (decimal_injective m n fa fb (append_cancel_left (codes "found ") _ _ e))
act_same script (act.Locked t m x) (act.Locked u n y) distinct names fa fb e =
    locked_same script t u m n x y names fa.0 fb.0 fa.1 fb.1 (append_cancel_left (codes "locked ") _ _ e)
act_same script (act.Placed t m) (act.Placed u n) distinct names fa fb e =
    let same = on_row_same script t u m n names fa.0 fb.0 fa.1 fb.1 (append_cancel_left (codes "placed ") _ _ e) in
    ap₂ (λ table row. act.Placed table row) same.0 same.1
act_same script (act.Inserted t m) (act.Inserted u n) distinct names fa fb e =
    let same = on_row_same script t u m n names fa.0 fb.0 fa.1 fb.1 (append_cancel_left (codes "inserted ") _ _ e) in
    ap₂ (λ table row. act.Inserted table row) same.0 same.1
act_same script (act.Updated t m) (act.Updated u n) distinct names fa fb e =
    let same = on_row_same script t u m n names fa.0 fb.0 fa.1 fb.1 (append_cancel_left (codes "updated ") _ _ e) in
    ap₂ (λ table row. act.Updated table row) same.0 same.1
act_same script (act.Deleted t m) (act.Deleted u n) distinct names fa fb e =
    let same = on_row_same script t u m n names fa.0 fb.0 fa.1 fb.1 (append_cancel_left (codes "deleted ") _ _ e) in
    ap₂ (λ table row. act.Deleted table row) same.0 same.1
act_same script act.Passed act.Passed distinct names fa fb e = refl
act_same script (act.Waits s) (act.Waits t) distinct names fa fb e =
    ap act.Waits (one_number script.sessions s t distinct fa fb (append_cancel_left (codes "waits ") _ _ e))
act_same script act.Committed act.Committed distinct names fa fb e = refl
act_same script act.RolledBack act.RolledBack distinct names fa fb e = refl
act_same script (act.Replied x) (act.Replied y) distinct names fa fb e =
    ap act.Replied (reply_same x y fa.0 fb.0 fa.1 fb.1 (append_cancel_left (codes "replied ") _ _ e))
act_same script (act.Failed x) (act.Failed y) distinct names fa fb e =
    ap act.Failed (error_same x y fa fb (append_cancel_left (codes "failed ") _ _ e))
act_same script act.Closed act.Closed distinct names fa fb e = refl
act_same script a b distinct names fa fb e = absurd (apart 2 (act_words script a) (act_words script b) e refl)

pub one_entry : OneEntryForEachLine
one_entry script fits a b fa fb e =
    let words = append_cancel_right (session_name script a.session ++ codes " " ++ act_words script a.act)
    (session_name script b.session ++ codes " " ++ act_words script b.act) (10 ∷ []) e in
    let ended = name_front (session_name script a.session) (session_name script b.session) (act_words script a.act)
    (act_words script b.act) (name_at_holds script.sessions a.session fits.written)
    (name_at_holds script.sessions b.session fits.written) words in
    ap₂ (λ session done. let entry : Entry = record { session = session; act = done } in entry)
    (one_number script.sessions a.session b.session fits.distinct fa.session fb.session ended.0)
    (act_same script a.act b.act fits.distinct (catalogue_names script.catalogue fits.tables) fa.act fb.act ended.1)
