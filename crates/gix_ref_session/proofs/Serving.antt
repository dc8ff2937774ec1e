-- Transactions of a session, one after the other.
use Rattle.std.proofs.Common.{◌≡◌, ◌⊎◌, inl, inr, ℕ, List, [], ◌∷◌, ◌++◌, Bool, true, false, ◌||◌, Option, Result, Ok, Err, refl, sym, ◌∙◌, ap, subst, append-nil, append_assoc}
use Rattle.gix_ref_files.specs.declared.files.ReadAt.{Ghosts}
use Rattle.gix_ref_packed.specs.OpenFiles.{HasReadFault}
use Rattle.gix_ref_files.specs.Files.{Meaning, Leaves, Loses, FaultCounts}
use Rattle.gix_ref_files.proofs.Moments.{joins, loses_joins, loses_weaken, starts, weaken}
use Rattle.gix_ref_edits.specs.declared.transaction.RefEdit.{RefEdit}
use Rattle.gix_ref_theory.specs.Sequences.{AreDone, AtNext, IsWithinSteps}
use Rattle.gix_ref_theory.proofs.Sequences.{done_more, within_first, within_next}
use Rattle.gix_ref_store.specs.Prepared.{HasGoodRecords, IsAtRest, tree_of}
use Rattle.gix_ref_store.specs.Store.{files_of}
use Rattle.gix_ref_store.specs.declared.file.store.Store.{Store}
use Rattle.gix_ref_program.specs.Writes.{IsKept}
use Rattle.gix_ref_program.proofs.Writing.{keeps_all}
use Rattle.gix_ref_session.specs.Gathering.{IsGathered, StopsShort, nothing_gathered}
use Rattle.gix_ref_session.specs.Sessions.{Closes, IsSessionLoss, IsSessionStop, IsTurnLoss, IsTurnStop, NotHeard, Serves, Settles, TryEnds, Turn, TurnComes, TurnDone, Way, way, way_on}
use Rattle.gix_ref_session.specs.Transactions.{IsTransactionLoss, IsTransactionStop}
use Rattle.gix_ref_session.specs.declared.fatal.Fatal.{Fatal}
use Rattle.gix_ref_session.specs.declared.fatal.Fatal.TheVariants as fatals
use Rattle.gix_ref_session.specs.declared.gather.Closing.{Closing}
use Rattle.gix_ref_session.specs.declared.gather.Closing.TheVariants as closings
use Rattle.gix_ref_session.specs.declared.gather.Gathered.{Gathered}
use Rattle.gix_ref_session.specs.declared.session.Session.{Session}
use Rattle.gix_ref_session.proofs.AnswerLemmas.{append_none}
use Rattle.gix_ref_session.proofs.Resting.{turns_ready}

-- within some steps is within these and more, where the next one begins with what is left at the end of those before it
module _ {A S : Type 0} (Done : A → S → S → Type 0) (Ends : S → Type 0) (Begun : A → S → Type 0) (begins : (a : A) (s : S) → Ends s → Begun a s) where
  within_more : (steps more : List A) (first : S) → IsWithinSteps Done Ends Begun steps first → IsWithinSteps Done Ends Begun (steps ++ more) first
  within_more steps more first within = record {
    done = within.done;
    rest = within.rest ++ more;
    steps_are = ap (λ (xs : List A). xs ++ more) within.steps_are ∙ append_assoc within.done within.rest more;
    state = within.state;
    are_done = within.are_done;
    left = next within.rest more within.left;
  }
    where
      at_none : (more : List A) (s : S) → Ends s → AtNext Ends Begun more s
      at_none [] s is = is
      at_none (a ∷ more) s is = begins a s is

      next : (rest more : List A) → AtNext Ends Begun rest within.state → AtNext Ends Begun (rest ++ more) within.state
      next [] more is = at_none more within.state is
      next (a ∷ rest) more is = is

module _ {F R : Type 0} (G : Ghosts R) (honest : Type 0) (means : F → Meaning) (faults : F → FaultCounts) (session : Session) where
  -- Whether only `start` begins a transaction changes nothing of how it ends.
  module _ (edits : List RefEdit) (needs then : Bool) (input output rest now : Option (List ℕ)) (old new : Store F) where
    tries_on : (closing : Closing) (mid : Store F) (result : Result Bool Fatal) → TryEnds G honest means faults session closing edits (way input output mid) (way rest now new) result → TryEnds G honest means faults session closing edits (way_on needs input output mid) (way_on then rest now new) result
    tries_on closing mid result (inl looked) = inl (record { fatal = looked.fatal; is = looked.is; why = looked.why; looked = looked.looked; input = looked.input; output = looked.output })
    tries_on closing mid result (inr led) = inr led

    settles_on : (closing : Closing) (result : Result Bool Fatal) → Settles G honest means faults session closing edits (way input output old) (way rest now new) result → Settles G honest means faults session closing edits (way_on needs input output old) (way_on then rest now new) result
    settles_on closing result ends = record { tries = ends.tries; mid = ends.mid; were = ends.were; ends = tries_on closing ends.mid result ends.ends; waited = ends.waited }

    closes_on : (closing : Closing) (gives_up : Bool) (result : Result Bool Fatal) → Closes G honest means faults session closing edits gives_up (way input output old) (way rest now new) result → Closes G honest means faults session closing edits gives_up (way_on needs input output old) (way_on then rest now new) result
    closes_on closings.Abort gives_up (Ok true) ends = ends
    closes_on closings.Abort gives_up (Ok false) ends = absurd ends
    closes_on closings.Abort gives_up (Err fatal) ends = ends
    closes_on closings.End true (Ok true) ends = absurd ends
    closes_on closings.End true (Ok false) ends = ends
    closes_on closings.End true (Err fatal) ends = absurd ends
    closes_on closings.End false result ends = settles_on closings.End result ends
    closes_on closings.Prepare gives_up result ends = settles_on closings.Prepare result ends
    closes_on closings.Commit gives_up result ends = settles_on closings.Commit result ends

  -- One transaction: its commands were gathered, and it was closed.
  module _ (needs_start : Bool) (input output : Option (List ℕ)) (old new : Store F) (closing : Closing) (rest mid_out : Option (List ℕ)) (gathered : Gathered) (g : IsGathered session needs_start closing input output rest mid_out gathered) where
    abbrev turn : Turn
    turn = record { heards = g.heards; closing = closing; gathered = g.g; rest = rest }

    pub turns : (gives_up : Bool) (after now : Option (List ℕ)) (result : Result Bool Fatal) → gives_up ≡ (gathered.is_started || needs_start) →
        Closes G honest means faults session closing gathered.edits.items gives_up (way rest mid_out old) (way after now new) result →
        (honest → Leaves (means (files_of old)) (means (files_of new)) (λ T. (T ≡ tree_of means old) ⊎ IsTransactionStop honest means faults session.committer (HasReadFault G.faults) gathered.edits.items old T)) →
        (honest → HasGoodRecords means old → IsAtRest means old →
        Loses (means (files_of old)) (means (files_of new)) (λ T. IsKept means (files_of old) T ⊎ IsTransactionLoss honest means faults session.committer (HasReadFault G.faults) gathered.edits.items old T)) →
        TurnComes G honest means faults session (way_on needs_start input output old) (way_on true after now new) result
    turns gives_up after now result gives ends leaves lost = inl (record {
      turn = turn;
      ends = record {
        gathered = g.are;
        ends = subst (λ (o : Option (List ℕ)). Closes G honest means faults session closing g.g.edits (g.g.started || needs_start) (way_on needs_start rest o old) (way_on true after now new) result) g.stays.output
            (subst (λ (b : Bool). Closes G honest means faults session closing g.g.edits b (way_on needs_start rest mid_out old) (way_on true after now new) result) (gives ∙ ap (λ (b : Bool). b || needs_start) g.stays.started)
            (subst (λ (es : List RefEdit). Closes G honest means faults session closing es gives_up (way_on needs_start rest mid_out old) (way_on true after now new) result) g.stays.edits
            (closes_on gathered.edits.items needs_start true rest mid_out after now old new closing gives_up result ends)));
      };
      leaves = λ h. subst (λ (es : List RefEdit). Leaves (means (files_of old)) (means (files_of new)) (λ T. (T ≡ tree_of means old) ⊎ IsTransactionStop honest means faults session.committer (HasReadFault G.faults) es old T)) g.stays.edits (leaves h);
      lost = λ h good rests. subst (λ (es : List RefEdit). Loses (means (files_of old)) (means (files_of new)) (λ T. IsKept means (files_of old) T ⊎ IsTransactionLoss honest means faults session.committer (HasReadFault G.faults) es old T)) g.stays.edits (lost h good rests);
    })

  pub not_heard : (needs_start : Bool) (input output rest now : Option (List ℕ)) (store : Store F) (fatal : Fatal) → StopsShort session needs_start input rest output now fatal →
      TurnComes G honest means faults session (way_on needs_start input output store) (way_on true rest now store) (Err fatal)
  not_heard needs_start input output rest now store fatal short = inr (fatal, refl, record { store = refl; short = short })

  -- The transactions of a session so far.

  pub record SoFar (first now : Way F) : Type 0 where
    pub turns : List Turn
    pub were : AreDone (TurnDone G honest means faults session) turns first now
    pub leaves : honest → Leaves (means (files_of first.store)) (means (files_of now.store)) (IsSessionStop G honest means faults session turns first)
    pub lost : honest → HasGoodRecords means first.store → IsAtRest means first.store → Loses (means (files_of first.store)) (means (files_of now.store)) (IsSessionLoss G honest means faults session turns first)

  pub none_yet : (first : Way F) → SoFar first first
  none_yet first = record {
    turns = [];
    were = refl;
    leaves = λ h. starts (means (files_of first.store)) (IsSessionStop G honest means faults session [] first)
        (within_first (TurnDone G honest means faults session) (λ (s : Way F). tree_of means first.store ≡ tree_of means s.store) (IsTurnStop G honest means faults session (tree_of means first.store)) [] first refl);
    lost = λ h good rests. keeps_all means (files_of first.store) (IsSessionLoss G honest means faults session [] first)
        (λ T is. within_first (TurnDone G honest means faults session) (λ (s : Way F). IsKept means (files_of s.store) T) (IsTurnLoss G honest means faults session T) [] first is);
  }

  module _ (first mid last : Way F) (b : SoFar first mid) where
    leaves_with : (turn : Turn) → (honest → Leaves (means (files_of mid.store)) (means (files_of last.store)) (λ T. IsTurnStop G honest means faults session T turn mid)) → honest →
        Leaves (means (files_of first.store)) (means (files_of last.store)) (IsSessionStop G honest means faults session (b.turns ++ turn ∷ []) first)
    leaves_with turn step h =
        joins
        (weaken (b.leaves h) (λ T within. within_more (TurnDone G honest means faults session) (λ (s : Way F). T ≡ tree_of means s.store) (IsTurnStop G honest means faults session T) (λ one s is. inl is) b.turns (turn ∷ []) first within))
        (weaken (step h) (λ T stop. within_next (TurnDone G honest means faults session) (λ (s : Way F). T ≡ tree_of means s.store) (IsTurnStop G honest means faults session T) (b.turns ++ turn ∷ []) b.turns [] turn first mid refl b.were stop))

    loses_with : (turn : Turn) → (honest → HasGoodRecords means mid.store → IsAtRest means mid.store → Loses (means (files_of mid.store)) (means (files_of last.store)) (λ T. IsTurnLoss G honest means faults session T turn mid)) →
        honest → HasGoodRecords means first.store → IsAtRest means first.store → Loses (means (files_of first.store)) (means (files_of last.store)) (IsSessionLoss G honest means faults session (b.turns ++ turn ∷ []) first)
    loses_with turn step h good rests =
        let ready = turns_ready G honest means faults session b.turns first mid b.were h (good, rests) in
        loses_joins
        (loses_weaken (b.lost h good rests) (λ T within. within_more (TurnDone G honest means faults session) (λ (s : Way F). IsKept means (files_of s.store) T) (IsTurnLoss G honest means faults session T) (λ one s is. inl is) b.turns (turn ∷ []) first within))
        (loses_weaken (step h ready.0 ready.1) (λ T loss. within_next (TurnDone G honest means faults session) (λ (s : Way F). IsKept means (files_of s.store) T) (IsTurnLoss G honest means faults session T) (b.turns ++ turn ∷ []) b.turns [] turn first mid refl b.were loss))

    no_error : {A E : Type 0} {P : Type 0} (v : A) (e : E) → ◌≡◌ {A = Result A E} (Ok v) (Err e) → P
    no_error v e is = cc

    -- it was closed
    pub goes_on : TurnComes G honest means faults session mid last (Ok true) → last.needs_start ≡ true → SoFar first last
    goes_on (inl turned) needs = record {
      turns = b.turns ++ turned.turn ∷ [];
      were = done_more (TurnDone G honest means faults session) b.turns turned.turn first mid last b.were (record { ends = turned.ends; needs_start = needs });
      leaves = leaves_with turned.turn turned.leaves;
      lost = loses_with turned.turn turned.lost;
    }
    goes_on (inr (fatal, is, not)) needs = no_error true fatal is

    -- the input ended with it
    pub ends : {E : Type 0} (value : E) → TurnComes G honest means faults session mid last (Ok false) → Serves G honest means faults session {E = E} first last (Ok value)
    ends value (inl turned) = record { turns = b.turns; rest = turned.turn ∷ []; state = mid; were = b.were; ends = turned.ends; leaves = leaves_with turned.turn turned.leaves; lost = loses_with turned.turn turned.lost }
    ends value (inr (fatal, is, not)) = no_error false fatal is

    -- it failed
    pub fails : {E : Type 0} (fatal : Fatal) → TurnComes G honest means faults session mid last (Err fatal) → Serves G honest means faults session {E = E} first last (Err fatal)
    fails fatal (inl turned) = record { turns = b.turns; rest = turned.turn ∷ []; state = mid; were = b.were; ends = turned.ends; leaves = leaves_with turned.turn turned.leaves; lost = loses_with turned.turn turned.lost }
    fails fatal (inr (other, is, not)) = record {
      turns = b.turns;
      rest = [];
      state = mid;
      were = b.were;
      ends = subst (λ (f : Fatal). NotHeard G honest means faults session mid last f) (sym (err_is fatal other is)) not;
      leaves = λ h. subst (λ (ts : List Turn). Leaves (means (files_of first.store)) (means (files_of last.store)) (IsSessionStop G honest means faults session ts first)) (sym (append-nil b.turns))
          (subst (λ (s : Store F). Leaves (means (files_of first.store)) (means (files_of s)) (IsSessionStop G honest means faults session b.turns first)) (sym not.store) (b.leaves h));
      lost = λ h good rests. subst (λ (ts : List Turn). Loses (means (files_of first.store)) (means (files_of last.store)) (IsSessionLoss G honest means faults session ts first)) (sym (append-nil b.turns))
          (subst (λ (s : Store F). Loses (means (files_of first.store)) (means (files_of s)) (IsSessionLoss G honest means faults session b.turns first)) (sym not.store) (b.lost h good rests));
    }
      where
        err_is : (e f : Fatal) → ◌≡◌ {A = Result Bool Fatal} (Err e) (Err f) → e ≡ f
        err_is e f is = cc

  -- as many transactions as can be counted were closed
  pub ends_uncounted : {E : Type 0} (first : Way F) (needs_start : Bool) (input output : Option (List ℕ)) (store : Store F) → SoFar first (way_on needs_start input output store) → Serves G honest means faults session {E = E} first (way_on true input output store) (Err fatals.Memory)
  ends_uncounted first needs_start input output store b =
      fails first (way_on needs_start input output store) (way_on true input output store) b fatals.Memory
      (inr (fatals.Memory, refl, record { store = refl; short = record { heards = []; gathered = nothing_gathered input output; were = refl; why = inl (inl tt); said = inr (append_none output) } }))
