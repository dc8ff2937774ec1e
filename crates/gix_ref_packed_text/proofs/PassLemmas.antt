-- Records that are passed, in turn.
use Rattle.std.proofs.Common.{◌≡◌, ℕ, ◌-◌, ◌<◌, ◌≤◌, List, [], ◌∷◌, ◌++◌, length, drop, refl, sym, ◌∙◌, ap, subst, arith, append-nil, append_assoc, length-drop}
use Rattle.std.specs.List.{All}
use Rattle.std.specs.Ordering.{ordering_reverse}
use Rattle.std.specs.declared.cmp.Ordering.TheVariants.{Less, Greater}
use Rattle.std.proofs.lemmas.Cmp.{nat_list_cmp_total}
use Rattle.std.proofs.lemmas.List.{append_cancel_left}
use Rattle.std.proofs.lemmas.List.Elements.{All-head, All-weaker}
use Rattle.std.proofs.lemmas.List.Sums.{sum_by-append}
use Rattle.gix_ref_hash.specs.declared.hash.Kind.{Kind}
use Rattle.gix_ref_target.specs.PackedRecords.{Record}
use Rattle.gix_ref_packed_text.specs.RecordGrammar.{Takes, Records, Below, Ascending, Rising}
use Rattle.gix_ref_packed_text.specs.OpenedText.{Fronts, lines_of}
use Rattle.gix_ref_packed_text.specs.Prefixes.{SplitsAt}
use Rattle.gix_ref_packed_text.proofs.OneReading.{same_record}
use Rattle.gix_ref_packed_text.proofs.RecordPlaces.{shorter_record}
use Rattle.gix_ref_packed_text.specs.declared.ahead.Ahead.{Ahead}
use Rattle.gix_ref_packed_text.specs.declared.error.Error.{Error}
use Rattle.gix_ref_packed_text.specs.declared.error.Error.TheVariants.{Iteration, Memory}
use Rattle.gix_ref_packed_text.specs.Rewrites.{IsStuckAt}
use Rattle.gix_ref_packed_text.specs.internal.Passing.{PassesRecords, PassesUntil, IsNotAhead}

fronts_append : (k : Kind) (t : List ℕ) (rs ss : List Record) (mid rest : List ℕ) → Fronts k t rs mid → Fronts k mid ss rest → Fronts k t (rs ++ ss) rest
fronts_append k t [] ss mid rest f g = subst (λ (u : List ℕ). Fronts k u ss rest) (sym f) g
fronts_append k t (r ∷ rs) ss mid rest f g = (f.0, f.1, fronts_append k f.0 rs ss mid rest f.2 g)

pub records_behind : (k : Kind) (t : List ℕ) (rs ss : List Record) (mid : List ℕ) → Fronts k t rs mid → Records k mid ss → Records k t (rs ++ ss)
records_behind k t [] ss mid f g = subst (λ (u : List ℕ). Records k u ss) (sym f) g
records_behind k t (r ∷ rs) ss mid f g = (f.0, f.1, records_behind k f.0 rs ss mid f.2 g)

pub passes_none : (k : Kind) (a : Ahead) → PassesRecords k a [] a
passes_none k a = record { fronts = refl; number = omega arith; shorter = omega arith }

pub passes_join : (k : Kind) (a b c : Ahead) (rs ss : List Record) → PassesRecords k a rs b → PassesRecords k b ss c → PassesRecords k a (rs ++ ss) c
passes_join k a b c rs ss p q =
    let sum = sum_by-append lines_of rs ss in
    let first = p.number in
    let second = q.number in
    let one = p.shorter in
    let two = q.shorter in
    record {
      fronts = fronts_append k a.rest.now rs ss b.rest.now c.rest.now p.fronts q.fronts;
      number = omega arith;
      shorter = omega arith;
    }

-- a line that is no record after records that are passed is one of the whole
pub stuck_behind : (k : Kind) (a b : Ahead) (rs : List Record) (e : Error) → PassesRecords k a rs b → IsStuckAt k b.line b.rest.now e → IsStuckAt k a.line a.rest.now e
stuck_behind k a b rs Memory p s = tt
stuck_behind k a b rs (Iteration line) p s =
    let sum = sum_by-append lines_of rs s.before in
    let first = p.number in
    let second = s.number in
    record {
      before = rs ++ s.before;
      rest = s.rest;
      fronts = fronts_append k a.rest.now rs s.before b.rest.now s.rest p.fronts s.fronts;
      some = s.some;
      bad = s.bad;
      number = omega arith;
    }

-- these records go on after those that are passed, up to a place
pub record IsStill (k : Kind) (passed : List Record) (rest : List ℕ) (rs : List Record) (mid : List ℕ) : Type 0 where
  pub more : List Record
  pub whole : rs ≡ passed ++ more
  pub fronts : Fronts k rest more mid

still_step : (k : Kind) (passed : List Record) (rest : List ℕ) (r : Record) (after : List ℕ) (rs more : List Record) (mid : List ℕ) → Takes k rest r after → length mid < length rest → rs ≡ passed ++ more → Fronts k rest more mid → IsStill k (passed ++ r ∷ []) after rs mid
still_step k passed rest r after rs [] mid takes far whole fronts = let same : length rest ≡ length mid = ap length fronts in absurd (omega arith)
still_step k passed rest r after rs (s ∷ more) mid takes far whole fronts =
    let same = same_record k rest s fronts.0 r after fronts.1 takes in
    record {
      more = more;
      whole = whole ∙ (ap (λ x. passed ++ x ∷ more) same.0 ∙ sym (append_assoc passed (r ∷ []) more));
      fronts = subst (λ (u : List ℕ). Fronts k u more mid) same.1 fronts.2;
    }

pub still_more : (k : Kind) (passed : List Record) (rest : List ℕ) (r : Record) (after : List ℕ) (rs : List Record) (mid : List ℕ) → Takes k rest r after → length mid < length rest → IsStill k passed rest rs mid → IsStill k (passed ++ r ∷ []) after rs mid
still_more k passed rest r after rs mid takes far still = still_step k passed rest r after rs still.more mid takes far still.whole still.fronts

fronts_shorter : (k : Kind) (t : List ℕ) (rs : List Record) (mid : List ℕ) → Fronts k t rs mid → length mid ≤ length t
fronts_shorter k t [] mid f = let same : length t ≡ length mid = ap length f in omega arith
fronts_shorter k t (r ∷ rs) mid f =
    let less = shorter_record k t r f.0 f.1 in
    let more = fronts_shorter k f.0 rs mid f.2 in omega arith

still_none : (k : Kind) (passed : List Record) (rest : List ℕ) (rs more : List Record) (mid : List ℕ) → length rest ≤ length mid → rs ≡ passed ++ more → Fronts k rest more mid → (rs ≡ passed) × (mid ≡ rest)
still_none k passed rest rs [] mid near whole fronts = (whole ∙ append-nil passed, sym fronts)
still_none k passed rest rs (s ∷ more) mid near whole fronts =
    let less = shorter_record k rest s fronts.0 fronts.1 in
    let later = fronts_shorter k fronts.0 more mid fronts.2 in absurd (omega arith)

pub still_ends : (k : Kind) (passed : List Record) (rest : List ℕ) (rs : List Record) (mid : List ℕ) → length rest ≤ length mid → IsStill k passed rest rs mid → (rs ≡ passed) × (mid ≡ rest)
still_ends k passed rest rs mid near still = still_none k passed rest rs still.more mid near still.whole still.fronts

-- ---- names in order

pub rises : (rs : List Record) → Ascending rs → Rising rs
rises [] up = tt
rises (r ∷ rs) up = (All-weaker (λ (s : Record). Below r.name s.name) (λ (s : Record). Below s.name r.name → ⊥) (λ s. not_above r.name s.name) rs up.0, rises rs up.1)
  where
    not_above : (a b : List ℕ) → Below a b → Below b a → ⊥
    not_above a b low high = let bad : Less ≡ Greater = sym low ∙ (nat_list_cmp_total.antisymm a b ∙ ap ordering_reverse high) in absurd (cc)

pub later_ascends : (xs ys : List Record) → Ascending (xs ++ ys) → Ascending ys
later_ascends [] ys up = up
later_ascends (x ∷ xs) ys up = later_ascends xs ys up.1

none_ahead : (key : List ℕ) (rs : List Record) → All (λ r. Below r.name key → ⊥) rs → IsNotAhead key rs
none_ahead key [] all = tt
none_ahead key (r ∷ rs) all = All-head (λ x. Below x.name key → ⊥) r rs all

-- where the records below a key end, by the place that halving finds
pub split_below : (k : Kind) (key : List ℕ) (a b : Ahead) (place left : ℕ) → left ≡ length a.rest.now - place → (until : PassesUntil k left a b) (more : List Record) → SplitsAt k a.rest.now (until.passed ++ more) key place →
    All (λ r. Below r.name key) until.passed × IsNotAhead key more
split_below k key a b place left is until more split =
    let same = until.exact split.before (drop place a.rest.now) split.front (length-drop place a.rest.now ∙ sym is) in
    let after : more ≡ split.after = append_cancel_left until.passed more split.after (split.is ∙ ap (λ xs. xs ++ split.after) same.0) in
    (subst (All (λ r. Below r.name key)) same.0 split.low, subst (IsNotAhead key) (sym after) (none_ahead key split.after split.high))
