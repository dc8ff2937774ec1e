-- Entries of reflogs.
use Rattle.std.proofs.Common.{◌≡◌, ◌<◌, ◌≤◌, ◌+◌, inl, inr, ℕ, true, zero, suc, List, [], ◌∷◌, ◌++◌, length, get_or, take, Option, Some, None, Result, Ok, Err, Vec, refl, sym, ◌∙◌, ap, subst, arith, append_assoc, append-nil}
use Rattle.std.specs.List.{cons_option, filter_map, slice_get}
use Rattle.std.specs.Option.{option_map, option_to_list}
use Rattle.std.specs.Result.{result_ok}
use Rattle.std.specs.Iterator.{Yields}
use Rattle.std.specs.Iterator.Runs.{EachRunFrom, Trigger, YieldsRun, WholeRun}
use Rattle.std.specs.declared.alloc.Global.{Global}
use Rattle.std.proofs.lemmas.List.{length-map, length-take-le, map-append, take_more}
use Rattle.std.proofs.lemmas.List.Elements.{filter_map-append}
use Rattle.std.proofs.lemmas.Option.{slice_get-get_or}
use Rattle.std.specs.Option.{is_none}
use Rattle.gix_ref_files.specs.Files.{Meaning, FaultCounts}
use Rattle.gix_ref_files.specs.declared.files.ReadAt.{Ghosts}
use Rattle.gix_ref_name.specs.NameGrammar.{full_error}
use Rattle.gix_ref_queries.specs.Answers.{Says}
use Rattle.gix_ref_queries.specs.Resolving.{NameEnd, FollowsTo}
use Rattle.gix_ref_files.specs.Tree.{Content, Tree, is_file, bytes_of}
use Rattle.gix_ref_log.specs.LogCuts.{log_lines}
use Rattle.gix_ref_log.specs.LogForward.{ForwardStep}
use Rattle.gix_ref_log.specs.LogItems.{IsForwardRun}
use Rattle.gix_ref_log.specs.LogLines.{LogLine, line_ref_parts}
use Rattle.gix_ref_log.specs.declared.log.iter.decode.Error as decode
use Rattle.gix_ref_log.specs.declared.log.iter.forwards.Forward.{Forward}
use Rattle.gix_ref_log.specs.declared.log.line.LineRef.{LineRef}
use Rattle.gix_ref_lookup.specs.Lookups.{meaning_in}
use Rattle.gix_ref_lookup.specs.Reflogs.{IsNoLog, count_by}
use Rattle.gix_ref_lookup.specs.declared.reflog.error.Error.{Error as LogError}
use Rattle.gix_ref_lookup.specs.declared.settings.Settings.{Settings}
use Rattle.gix_ref_store.specs.Lookup.{LooksUp}
use Rattle.gix_ref_store.specs.Reflogs.{IsNoReflog, reflog_at}
use Rattle.gix_ref_store.specs.Store as stores
use Rattle.gix_ref_store.specs.declared.file.store.Store.{Store}
use Rattle.gix_ref_queries.specs.LogRows.{AreEntries, AreLogEntries, AreShown, IsAsked, IsShownOf, IsShownOfRun, ShowAnswer, ShowsByEnd, ShowsLog, entry_line, entry_lines, entry_parts, newest}
use Rattle.gix_ref_queries.specs.declared.answer.Answer.{Answer}
use Rattle.gix_ref_queries.proofs.Names.{same_settings}

-- eight texts, one after the other
pub eight : (t a b c d e f g h t1 t2 t3 t4 t5 t6 t7 t8 : List ℕ) → t1 ≡ t ++ a → t2 ≡ t1 ++ b → t3 ≡ t2 ++ c → t4 ≡ t3 ++ d → t5 ≡ t4 ++ e → t6 ≡ t5 ++ f → t7 ≡ t6 ++ g → t8 ≡ t7 ++ h →
    t8 ≡ t ++ (a ++ (b ++ (c ++ (d ++ (e ++ (f ++ (g ++ h)))))))
eight t a b c d e f g h t1 t2 t3 t4 t5 t6 t7 t8 p1 p2 p3 p4 p5 p6 p7 p8 =
    p8 ∙ (ap (λ x. x ++ h) (p7 ∙ ap (λ x. x ++ g) (p6 ∙ ap (λ x. x ++ f) (p5 ∙ ap (λ x. x ++ e) (p4 ∙ ap (λ x. x ++ d) (p3 ∙ ap (λ x. x ++ c) (p2 ∙ ap (λ x. x ++ b) p1)))))) ∙ simp append_assoc)

-- one line more
entry_lines_push : (name : List ℕ) (place : ℕ) (entries : List LogLine) (entry : LogLine) → entry_lines name place (entries ++ entry ∷ []) ≡ entry_lines name place entries ++ entry_line name (place + length entries) entry
entry_lines_push name place [] entry =
    let same : place ≡ place + 0 = omega arith in
    append-nil (entry_line name place entry) ∙ ap (λ (n : ℕ). entry_line name n entry) same
entry_lines_push name place (first ∷ entries) entry =
    let same : (place + 1) + length entries ≡ place + suc (length entries) = omega arith in
    ap (λ (more : List ℕ). entry_line name place first ++ more) (entry_lines_push name (place + 1) entries entry ∙ ap (λ (n : ℕ). entry_lines name (place + 1) entries ++ entry_line name n entry) same)
    ∙ sym (append_assoc (entry_line name place first) (entry_lines name (place + 1) entries) (entry_line name (place + suc (length entries)) entry))

pub one_entry_more : (name : List ℕ) (entries : List LineRef) (i : ℕ) (entry : LineRef) → i < length entries → entry ≡ get_or entries i entry → entry_lines name 0 (entry_parts (take (i + 1) entries)) ≡ entry_lines name 0 (entry_parts (take i entries)) ++ entry_line name i (line_ref_parts entry)
one_entry_more name entries i entry lt is =
    let le : i ≤ length entries = omega arith in
    let long : 0 + length (entry_parts (take i entries)) ≡ i = omega (arith, length-map (take i entries) line_ref_parts, length-take-le i entries le) in
    ap (λ (es : List LineRef). entry_lines name 0 (entry_parts es)) (take_more entries i entry lt ∙ ap (λ (e : LineRef). take i entries ++ e ∷ []) (sym is))
    ∙ (ap (entry_lines name 0) (map-append line_ref_parts (take i entries) (entry ∷ []))
    ∙ (entry_lines_push name 0 (entry_parts (take i entries)) (line_ref_parts entry)
    ∙ ap (λ (n : ℕ). entry_lines name 0 (entry_parts (take i entries)) ++ entry_line name n (line_ref_parts entry)) long))

-- one item more
pub one_item_more : (items : List (Result LineRef decode.Error)) (item : Result LineRef decode.Error) (before after : List LineRef) → before ≡ filter_map result_ok items → after ≡ before ++ option_to_list (result_ok item) → after ≡ filter_map result_ok (items ++ item ∷ [])
one_item_more items item before after so_far added =
    added ∙ (ap (λ (es : List LineRef). es ++ option_to_list (result_ok item)) so_far ∙ (ap (λ (es : List LineRef). filter_map result_ok items ++ es) (alone (result_ok item)) ∙ sym (filter_map-append result_ok items (item ∷ []))))
  where
    alone : (o : Option LineRef) → option_to_list o ≡ cons_option o []
    alone None = refl
    alone (Some entry) = refl

-- what a loop was given is a whole run
pub whole_run : {S A : Type 0} (steps : S → Option A → S → Type 0) (s t u : S) (items : List A) → Yields steps s items t → steps t None u → WholeRun steps s (λ run. run.items ≡ items)
unfolding Trigger YieldsRun
whole_run steps s t u items gave last = (
  record {
    from = s;
    items = items;
    whole = true;
    len = length items;
    at = slice_get items;
    seen = _;
    long = refl;
    reads = λ k d below. ap (option_map (λ y. y)) (slice_get-get_or items k d below);
    gave = ((t, gave, λ _. (u, last)), λ k. refl);
  },
  refl,
  refl,
  refl,
)

-- the lines that a run read are the entries of its log
entries_of_run : (Ended : Type 0) (n : ℕ) (lines : List (List ℕ)) (items : List (Result LineRef decode.Error)) → Ended → IsForwardRun Ended n lines items → AreEntries lines (entry_parts (filter_map result_ok items))
entries_of_run Ended n lines [] ended run = subst (λ (ls : List (List ℕ)). AreEntries ls []) (sym (run ended)) refl
entries_of_run Ended n lines (Ok l ∷ items) ended (text, rest, same, is, more) =
    subst (λ (ls : List (List ℕ)). AreEntries ls (line_ref_parts l ∷ entry_parts (filter_map result_ok items))) (sym same)
    (inr (line_ref_parts l, entry_parts (filter_map result_ok items), refl, is, entries_of_run Ended (n + 1) rest items ended more))
entries_of_run Ended n lines (Err e ∷ items) ended (text, rest, same, is, more) =
    subst (λ (ls : List (List ℕ)). AreEntries ls (entry_parts (filter_map result_ok items))) (sym same)
    (inl (is.1, entries_of_run Ended (n + 1) rest items ended more))

parts_none : (entries : List LineRef) → entry_parts entries ≡ [] → entries ≡ []
parts_none [] same = refl
parts_none (entry ∷ entries) same = cc

-- what is shown of the lines of a log is shown of the log
pub shown_of : (content : Option Content) (log : Forward) (name : List ℕ) (count : Option ℕ) (text : Option (Vec ℕ Global)) → is_file content ≡ true → EachRunFrom ForwardStep log (λ run. IsForwardRun (run.whole ≡ true) 1 (log_lines (bytes_of content)) run.items) →
    WholeRun ForwardStep log (λ run. IsShownOfRun run.items name count text) → IsShownOf content name count text
shown_of content log name count None file reads (run, from, whole, none) =
    inr (file, subst (λ (es : List LineRef). AreEntries (log_lines (bytes_of content)) (entry_parts es)) none (entries_of_run (run.whole ≡ true) 1 (log_lines (bytes_of content)) run.items whole (reads run run.seen from)))
shown_of content log name count (Some text) file reads (run, from, whole, (some, shows)) = (
  entry_parts (filter_map result_ok run.items),
  inr (file, entries_of_run (run.whole ≡ true) 1 (log_lines (bytes_of content)) run.items whole (reads run run.seen from)),
  (λ none. some (parts_none (filter_map result_ok run.items) none)),
  shows,
)

module _ {F : Type 0} (honest : Type 0) (means : F → Meaning) (faults : F → FaultCounts) (old mid : Store F) (looked : LooksUp honest means old mid) where
  pub same_log : (name : List ℕ) → honest → reflog_at means mid name ≡ reflog_at means old name
  same_log name h =
      ap (λ (s : Settings). (means (stores.files_of mid)).tree ((meaning_in s).log name)) (same_settings old mid looked.same)
      ∙ ap (λ (T : Tree). T ((stores.meaning_of old).log name)) (looked.leaves h).tree

  pub same_unread : (name : List ℕ) (error : LogError) → IsNoReflog mid name error → IsNoReflog old name error
  same_unread name error = subst (λ (s : Settings). IsNoLog s name error) (same_settings old mid looked.same)

  -- what is shown as the store was before, in which no fault was counted
  pub shows_before : (new : Store F) (name last : List ℕ) (count : Option ℕ) (answer : Answer) → faults (stores.files_of mid) ≡ faults (stores.files_of old) → ShowsLog honest means faults mid new name last count answer → ShowsLog honest means faults old new name last count answer
  shows_before new name last count answer none (inl (at, error, which, why, counts, fails)) = inl (at, error, asks which, same_unread at error why, counts ∙ ap (count_by error) none, fails)
    where
      asks : IsAsked honest means faults mid name last at → IsAsked honest means faults old name last at
      asks (inl own) = inl own
      asks (inr (is, empty)) = inr (is, (λ h. subst (λ (c : Option Content). AreLogEntries c []) (same_log name h) (empty h)))
  shows_before new name last count answer none (inr (text, says, shown)) = inr (text, says, (λ h. let s = shown h in (s.0, by h s.0 s.1, s.2)))
    where
      by : honest → (entries : List LogLine) → AreShown honest means faults mid name last entries → AreShown honest means faults old name last entries
      by h entries (inl (own, some)) = inl (subst (λ (c : Option Content). AreLogEntries c entries) (same_log name h) own, some)
      by h entries (inr (none, of_last)) = inr (subst (λ (c : Option Content). AreLogEntries c []) (same_log name h) none, subst (λ (c : Option Content). AreLogEntries c entries) (same_log last h) of_last)

  -- a name without an entry of its own
  pub last_shown : (new : Store F) (name last label : List ℕ) (count : Option ℕ) (text : Vec ℕ Global) (answer : Answer) → label ≡ name → Says text.items 0 answer → (honest → AreLogEntries (reflog_at means old name) []) → (honest → IsShownOf (reflog_at means mid last) label count (Some text)) → ShowsLog honest means faults old new name last count answer
  last_shown new name last label count text answer same says none shows = inr (text.items, says, (λ h. let s = shows h in (s.0, inr (none h, subst (λ (c : Option Content). AreLogEntries c s.0) (same_log last h) s.1), s.3 ∙ ap (λ (n : List ℕ). entry_lines n 0 (newest count s.0)) same)))

  pub none_shown : (new : Store F) (name last : List ℕ) (count : Option ℕ) (answer : Answer) → Says [] 0 answer → (honest → AreLogEntries (reflog_at means old name) []) → (honest → AreLogEntries (reflog_at means mid last) []) → ShowsLog honest means faults old new name last count answer
  none_shown new name last count answer says none of_last = inr ([], says, (λ h. ([], inr (none h, subst (λ (c : Option Content). AreLogEntries c []) (same_log last h) (of_last h)), by count)))
    where
      by : (count : Option ℕ) → [] ≡ entry_lines name 0 (newest count [])
      by None = refl
      by (Some zero) = refl
      by (Some (suc n)) = refl

module _ {F : Type 0} (honest : Type 0) (means : F → Meaning) (faults : F → FaultCounts) (old new : Store F) where
  pub own_shown : (name last label : List ℕ) (count : Option ℕ) (text : Vec ℕ Global) (answer : Answer) → label ≡ name → Says text.items 0 answer → (honest → IsShownOf (reflog_at means old name) label count (Some text)) → ShowsLog honest means faults old new name last count answer
  own_shown name last label count text answer same says shows = inr (text.items, says, (λ h. let s = shows h in (s.0, inl (s.1, s.2), s.3 ∙ ap (λ (n : List ℕ). entry_lines n 0 (newest count s.0)) same)))

  -- what is answered where the following ended so
  pub answered : {R : Type 0} (G : Ghosts R) (name : List ℕ) (count : Option ℕ) (answer : Answer) (end : NameEnd) → full_error name ≡ None → FollowsTo honest means old name end →
      ShowsByEnd honest means faults old new end name count answer → ShowAnswer honest means faults G old new name count answer
  answered G name count answer end valid leads shows = inr (ap is_none valid, inr (end, leads, shows))
