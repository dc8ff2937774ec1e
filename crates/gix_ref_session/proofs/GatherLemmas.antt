-- The commands of a transaction, one after the other.
use Rattle.std.proofs.Common.{◌≡◌, ◌⊎◌, inl, inr, ⊎_elim, ℕ, List, [], ◌∷◌, ◌++◌, Bool, true, Option, Some, None, Result, Ok, Err, IfErr, IfOk, refl, sym, ◌∙◌, subst}
use Rattle.std.specs.Io.KnownBytes.{Appends}
use Rattle.gix_ref_theory.specs.Sequences.{AreDone}
use Rattle.gix_ref_theory.proofs.Sequences.{done_more}
use Rattle.gix_ref_session.specs.Commands.{Heard, Start, IsNoCommand, words_of}
use Rattle.gix_ref_session.specs.Gathering.{CannotGoOn, Gathering, Gathers, GathersOrCloses, HearsClosing, IsClosing, IsGathered, IsMalformed, IsNotDone, IsStopped, IsReportOf, IsUnsaid, StopsShort, TakesOrCloses, as_gathering, nothing_gathered}
use Rattle.gix_ref_session.specs.Input.{AreWords, Hears}
use Rattle.gix_ref_session.specs.Quotes.{ArePlain}
use Rattle.gix_ref_session.specs.declared.fatal.Fatal.{Fatal}
use Rattle.gix_ref_session.specs.declared.gather.Closing.{Closing}
use Rattle.gix_ref_session.specs.declared.gather.Closing.TheVariants as closings
use Rattle.gix_ref_session.specs.declared.input.Format.{Format}
use Rattle.gix_ref_session.specs.declared.input.Format.TheVariants.{Lines, Nul}
use Rattle.gix_ref_session.specs.declared.gather.Gathered.{Gathered}
use Rattle.gix_ref_hash.specs.declared.hash.Kind.{Kind}
use Rattle.gix_ref_session.specs.declared.session.Session.{Session}
use Rattle.gix_ref_session.proofs.QuoteLemmas.{plain_once}

-- some commands were done
pub record SoFar (session : Session) (needs_start : Bool) (input output : Option (List ℕ)) (g : Gathering) : Type 0 where
  pub heards : List Heard
  pub were : AreDone (Gathers session needs_start) heards (nothing_gathered input output) g

module _ (session : Session) (needs_start : Bool) (input output : Option (List ℕ)) where
  pub none_yet : SoFar session needs_start input output (nothing_gathered input output)
  none_yet = record { heards = []; were = refl }

  pub one_more : (g h : Gathering) → SoFar session needs_start input output g → GathersOrCloses session needs_start None g h → SoFar session needs_start input output h
  one_more g h b (heard, gathers) = record {
    heards = b.heards ++ heard ∷ [];
    were = done_more (Gathers session needs_start) b.heards heard (nothing_gathered input output) g h b.were gathers;
  }

  pub falls_short : (g : Gathering) (rest now : Option (List ℕ)) (fatal : Fatal) → SoFar session needs_start input output g → CannotGoOn session needs_start g rest fatal → IsUnsaid fatal ⊎ Appends g.output now [] → StopsShort session needs_start input rest output now fatal
  falls_short g rest now fatal b why said = record { heards = b.heards; gathered = g; were = b.were; why = why; said = said }

  pub closes : (g h : Gathering) (closing : Closing) (now rest : Option (List ℕ)) (gathered : Gathered) → SoFar session needs_start input output g → GathersOrCloses session needs_start (Some closing) g (as_gathering rest now gathered) → IsGathered session needs_start closing input output rest now gathered
  closes g h closing now rest gathered b (hears, stays, begun) = record {
    heards = b.heards;
    g = g;
    are = record { were = b.were; closed = hears; begun = begun };
    stays = record { edits = stays.edits; started = stays.started; output = stays.output };
  }

-- What a command does where it was read.

pub ok_with : {A E : Type 0} (r : Result A E) (P Q : A → Type 0) → ((v : A) → P v → Q v) → IfOk r P → IfOk r Q
ok_with (Ok v) P Q wider p = wider v p
ok_with (Err e) P Q wider p = tt

pub nul_are : (format : Format) (text : List ℕ) (words : List (List ℕ)) → format ≡ Nul → words ≡ words_of format text → AreWords format text words
nul_are Lines text words is are = absurd (not_both is)
  where
    not_both : Lines ≡ Nul → ⊥
    not_both e = cc
nul_are Nul text words is are = are

pub lines_are : (format : Format) (text : List ℕ) (words plain : List (List ℕ)) → format ≡ Lines → words ≡ words_of format text → ArePlain words plain → AreWords format text plain
lines_are Lines text words plain is are for = subst (λ (ws : List (List ℕ)). ArePlain ws plain) are for
lines_are Nul text words plain is are for = absurd (not_both is)
  where
    not_both : Nul ≡ Lines → ⊥
    not_both e = cc

-- Texts that are no command.

-- of a line that is for these words
pub only_plain : {T : Type 0} (format : Format) (kind : Kind) (r : Result T Fatal) (text : List ℕ) (words lent : List (List ℕ)) → ArePlain words lent → IfErr r (λ fatal. IsStopped fatal ⊎ (IsReportOf text fatal × IsNoCommand format kind lent)) →
    IfErr r (λ fatal. IsStopped fatal ⊎ (IsReportOf text fatal × ((plain : List (List ℕ)) → ArePlain words plain → IsNoCommand format kind plain)))
only_plain format kind (Ok v) text words lent are none = tt
only_plain format kind (Err fatal) text words lent are (inl stopped) = inl stopped
only_plain format kind (Err fatal) text words lent are (inr none) = inr (none.0, λ plain same. subst (λ (ws : List (List ℕ)). IsNoCommand format kind ws) (sym (plain_once words lent plain are same)) none.1)

module _ {T : Type 0} (session : Session) (r : Result T Fatal) (text : List ℕ) (words : List (List ℕ)) where
  pub no_nul : session.format ≡ Nul → words ≡ words_of session.format text → IfErr r (λ fatal. IsStopped fatal ⊎ (IsReportOf text fatal × IsNoCommand session.format session.object_hash words)) → IfErr r (λ fatal. IsStopped fatal ⊎ IsMalformed session text fatal)
  no_nul nul is none = by r none
    where
      same : (format : Format) → format ≡ Nul → (ws : List (List ℕ)) → AreWords format text ws → ws ≡ words_of format text
      same Nul e ws are = are
      same Lines e ws are = absurd (not_both e)
        where
          not_both : Lines ≡ Nul → ⊥
          not_both e = cc

      by : (r : Result T Fatal) → IfErr r (λ fatal. IsStopped fatal ⊎ (IsReportOf text fatal × IsNoCommand session.format session.object_hash words)) → IfErr r (λ fatal. IsStopped fatal ⊎ IsMalformed session text fatal)
      by (Ok v) none = tt
      by (Err fatal) (inl stopped) = inl stopped
      by (Err fatal) (inr none) = inr (none.0, λ ws are. subst (λ (x : List (List ℕ)). IsNoCommand session.format session.object_hash x) (is ∙ sym (same session.format nul ws are)) none.1)

  pub no_line : session.format ≡ Lines → words ≡ words_of session.format text → IfErr r (λ fatal. IsStopped fatal ⊎ (IsReportOf text fatal × ((plain : List (List ℕ)) → ArePlain words plain → IsNoCommand session.format session.object_hash plain))) → IfErr r (λ fatal. IsStopped fatal ⊎ IsMalformed session text fatal)
  no_line lines is none = by r none
    where
      plain_of : (format : Format) → format ≡ Lines → (ws : List (List ℕ)) → AreWords format text ws → ArePlain (words_of format text) ws
      plain_of Lines e ws are = are
      plain_of Nul e ws are = absurd (not_both e)
        where
          not_both : Nul ≡ Lines → ⊥
          not_both e = cc

      by : (r : Result T Fatal) → IfErr r (λ fatal. IsStopped fatal ⊎ (IsReportOf text fatal × ((plain : List (List ℕ)) → ArePlain words plain → IsNoCommand session.format session.object_hash plain))) → IfErr r (λ fatal. IsStopped fatal ⊎ IsMalformed session text fatal)
      by (Ok v) none = tt
      by (Err fatal) (inl stopped) = inl stopped
      by (Err fatal) (inr none) = inr (none.0, λ ws are. none.1 ws (subst (λ (x : List (List ℕ)). ArePlain x ws) (sym is) (plain_of session.format lines ws are)))

-- a command is read, and done, or it ends the commands
pub heard : (session : Session) (needs_start : Bool) (h : Heard) (r : Result (Option Closing) Fatal) (input rest out now : Option (List ℕ)) (old new : Gathered) → Hears session.format session.object_hash h input rest → (needs_start ≡ true → (old.is_started ≡ true) ⊎ (h ≡ Start)) →
    ((before after : Option (List ℕ)) → IfOk r (λ closing. TakesOrCloses session h closing (as_gathering before out old) (as_gathering after now new))) → IfOk r (λ closing. GathersOrCloses session needs_start closing (as_gathering input out old) (as_gathering rest now new))
heard session needs_start h (Ok None) input rest out now old new hears begun takes = (h, record { hears = hears; begun = begun; takes = takes input rest })
heard session needs_start h (Ok (Some closing)) input rest out now old new hears begun takes =
    let is = takes input rest in
    (hears_closing closing is.0, record { edits = is.1.edits; started = is.1.started; output = is.1.output }, λ needs. ⊎_elim (λ started. inl started) (λ start. absurd (no_start closing is.0 start)) (begun needs))
  where
    hears_closing : (closing : Closing) → IsClosing closing h → HearsClosing session closing input rest
    hears_closing closings.Prepare is = (h, is, hears)
    hears_closing closings.Commit is = (h, is, hears)
    hears_closing closings.Abort is = (h, is, hears)
    hears_closing closings.End is = absurd is

    no_start : (closing : Closing) → IsClosing closing h → h ≡ Start → ⊥
    no_start closings.Prepare is start = cc
    no_start closings.Commit is start = cc
    no_start closings.Abort is start = cc
    no_start closings.End is start = is
heard session needs_start h (Err fatal) input rest out now old new hears begun takes = tt

-- a command is read, and not done
pub not_done : (session : Session) (needs_start : Bool) (h : Heard) (r : Result (Option Closing) Fatal) (g : Gathering) (rest : Option (List ℕ)) → Hears session.format session.object_hash h g.input rest → IfErr r (IsNotDone needs_start h g) → IfErr r (CannotGoOn session needs_start g rest)
not_done session needs_start h (Ok v) g rest hears not = tt
not_done session needs_start h (Err fatal) g rest hears not = inr (h, hears, not)
