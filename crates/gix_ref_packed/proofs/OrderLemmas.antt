-- The order of records that are read one by one.
use Rattle.std.proofs.Common.{◌≡◌, ℕ, ◌+◌, ◌*◌, ◌≤◌, ◌==◌, eqb-true, Bool, true, List, [], ◌∷◌, ◌++◌, length, refl, sym, ◌∙◌, ap, subst, arith, append-nil, append_assoc, length-append, Option, Some, None}
use Rattle.std.specs.List.{All}
use Rattle.std.proofs.lemmas.List.Elements.{All-head, All-tail, All-append, All-cons, All-nil}
use Rattle.std.proofs.lemmas.List.Sums.{sum_by-append}
use Rattle.gix_ref_hash.specs.declared.hash.Kind.{Kind}
use Rattle.gix_ref_hash.specs.declared.hash.Kind.TheVariants as kinds
use Rattle.gix_ref_hash.specs.Ids.{kind_len}
use Rattle.gix_ref_target.specs.PackedRecords.{Record}
use Rattle.gix_ref_packed_text.specs.RecordGrammar.{Takes, Records, Below, Rising}
use Rattle.gix_ref_packed_text.specs.OpenedText.{Fronts, StuckAt, lines_of, lines_with, line_count}
use Rattle.gix_ref_packed_text.proofs.OneReading.{same_record}
use Rattle.gix_ref_packed_text.proofs.RecordBytes.{lines_taken, fronts_more, fronts_all, few_lines, lines_more}
use Rattle.gix_ref_packed_text.proofs.LowerBounds.{below_or}
use Rattle.gix_ref_packed.specs.declared.packed.order.ReadRecords.{ReadRecords}
use Rattle.gix_ref_packed.specs.declared.packed.buffer.open.Error.{Error}
use Rattle.gix_ref_packed.specs.declared.packed.buffer.open.Error.TheVariants.{Iter, HeaderParsing, Io, Memory}
use Rattle.gix_ref_packed.specs.Buffers.{IsStuck}
use Rattle.gix_ref_packed.specs.internal.Parts.{HasRead, IsPart, IsUnread, last_name}
use Rattle.gix_ref_packed.proofs.PartLemmas.{part_fronts, part_stuck}

pub no_bytes : (t : List ℕ) → (length t == 0) ≡ true → t ≡ []
no_bytes [] none = refl
no_bytes (b ∷ t) none = let bad : length (b ∷ t) ≡ 0 = eqb-true _ _ none in absurd (omega arith)

last_more : (rs : List Record) (r : Record) → last_name (rs ++ r ∷ []) ≡ r.name
last_more [] r = refl
last_more (s ∷ []) r = refl
last_more (s ∷ u ∷ rs) r = last_more (u ∷ rs) r

not_below_last : (r : Record) (rs : List Record) (x : Record) → All (λ s. Below s.name x.name → ⊥) (r ∷ rs) → Below (last_name (r ∷ rs)) x.name → ⊥
not_below_last r [] x all = All-head (λ s. Below s.name x.name → ⊥) r [] all
not_below_last r (s ∷ rs) x all = not_below_last s rs x (All-tail (λ s. Below s.name x.name → ⊥) r (s ∷ rs) all)

rising_more : (rs : List Record) (r : Record) → Rising rs → (Below r.name (last_name rs) → ⊥) → Rising (rs ++ r ∷ [])
rising_more [] r up above = (All-nil (λ s. Below s.name r.name → ⊥), tt)
rising_more (x ∷ []) r up above = (All-cons (λ s. Below s.name x.name → ⊥) r [] above (All-nil (λ s. Below s.name x.name → ⊥)), (All-nil (λ s. Below s.name r.name → ⊥), tt))
rising_more (x ∷ y ∷ rs) r up above =
    let P : Record → Type 0 = λ s. Below s.name x.name → ⊥ in
    (All-append P (y ∷ rs) (r ∷ []) up.0 (All-cons P r [] (λ below. above (below_or r.name x.name (last_name (y ∷ rs)) below (not_below_last y rs x up.0))) (All-nil P)), rising_more (y ∷ rs) r up.1 above)

-- one record more
read_more : (first : ℕ) (rs : List Record) (old new : ReadRecords) (r : Record) → HasRead first rs old → new.line ≡ old.line + lines_of r → new.last.now ≡ r.name → (new.rises ≡ true → (old.rises ≡ true) × (Below new.last.now old.last.now → ⊥)) → HasRead first (rs ++ r ∷ []) new
read_more first rs old new r was line last above =
    let lines = lines_more rs r in
    let number = was.number in
    record {
      number = omega arith;
      last_is = last ∙ sym (last_more rs r);
      rise = λ so.
          let both = above so in
          rising_more rs r (was.rise both.0) (λ below. both.1 (subst (λ (n : List ℕ). Below n old.last.now) (sym last) (subst (λ (n : List ℕ). Below r.name n) (sym was.last_is) below)));
    }

-- a line of a record has three bytes or more
three_lines : (k : Kind) (t : List ℕ) (r : Record) (rest : List ℕ) → Takes k t r rest → 3 * lines_of r + length rest ≤ length t
three_lines k t r rest takes =
    let l = lines_taken k t r rest takes in
    let alone = l.again [] (λ none. tt) in
    let whole : length t ≡ length l.front + length rest = ap length l.whole ∙ length-append l.front rest in
    let front : length l.front ≡ length r.target + length (32 ∷ alone.line.after) = ap length (sym (append-nil l.front) ∙ alone.line.whole) ∙ length-append r.target (32 ∷ alone.line.after) in
    let digits : 6 ≤ length r.target = six k (length r.target) takes.line.len in
    let few = few_lines r in omega arith
  where
    six : (k : Kind) (n : ℕ) → n ≡ 2 * kind_len k → 6 ≤ n
    six kinds.Sha1 n e = omega arith
    six kinds.Sha256 n e = omega arith

-- what was read of the text up to the rest of it, behind what was read before
pub record ReadsOn (k : Kind) (t rest : List ℕ) (before read : ReadRecords) : Type 0 where
  pub more : List Record
  pub fronts : Fronts k t more rest
  pub number : read.line ≡ before.line + line_count more
  pub reads : (first : ℕ) (rs : List Record) → HasRead first rs before → HasRead first (rs ++ more) read
  pub fits : 3 * read.line + length rest ≤ 3 * before.line + length t

pub reads_none : (k : Kind) (t : List ℕ) (before : ReadRecords) → ReadsOn k t t before before
reads_none k t before = record {
  more = [];
  fronts = refl;
  number = omega arith;
  reads = λ first rs was. subst (λ (xs : List Record). HasRead first xs before) (sym (append-nil rs)) was;
  fits = omega arith;
}

pub reads_more : (k : Kind) (t mid rest : List ℕ) (before old new : ReadRecords) (r : Record) → ReadsOn k t mid before old → Takes k mid r rest → new.line ≡ old.line + lines_of r → new.last.now ≡ r.name → (new.rises ≡ true → (old.rises ≡ true) × (Below new.last.now old.last.now → ⊥)) → ReadsOn k t rest before new
reads_more k t mid rest before old new r was takes line last above =
    let lines = lines_more was.more r in
    let number = was.number in
    let fits = was.fits in
    let three = three_lines k mid r rest takes in
    record {
      more = was.more ++ r ∷ [];
      fronts = fronts_more k t was.more mid r rest was.fronts takes;
      number = omega arith;
      reads = λ first rs h. subst (λ (xs : List Record). HasRead first xs new) (append_assoc rs was.more (r ∷ [])) (read_more first (rs ++ was.more) old new r (was.reads first rs h) line last above);
      fits = omega arith;
    }

pub reads_all : (k : Kind) (t rest : List ℕ) (before read : ReadRecords) → ReadsOn k t rest before read → rest ≡ [] → (first : ℕ) (rs : List Record) → HasRead first rs before → (more : List Record) × Records k t more × HasRead first (rs ++ more) read
reads_all k t rest before read was end first rs h = (was.more, fronts_all k t was.more rest end was.fronts, was.reads first rs h)

-- ---- records that are read in parts

-- what was read of a text up to its rest: the number of the next line, the last name, and that names rise where that is said
pub record Reads (k : Kind) (t rest last : List ℕ) (rises : Bool) (first line : ℕ) : Type 0 where
  pub read : List Record
  pub fronts : Fronts k t read rest
  pub number : line ≡ first + line_count read
  pub last_is : last ≡ last_name read
  pub rise : rises ≡ true → Rising read

pub nothing_read : (k : Kind) (t last : List ℕ) (first : ℕ) → last ≡ [] → Reads k t t last true first first
nothing_read k t last first none = record { read = []; fronts = refl; number = omega arith; last_is = none; rise = λ so. tt }

-- these records, then others
fronts_then : (k : Kind) (t : List ℕ) (rs ss : List Record) (mid rest : List ℕ) → Fronts k t rs mid → Fronts k mid ss rest → Fronts k t (rs ++ ss) rest
fronts_then k t [] ss mid rest f g = subst (λ (u : List ℕ). Fronts k u ss rest) (sym f) g
fronts_then k t (r ∷ rs) ss mid rest f g = (f.0, f.1, fronts_then k f.0 rs ss mid rest f.2 g)

module _ (k : Kind) (t rest part last : List ℕ) (rises : Bool) (first line : ℕ) (was : Reads k t rest last rises first line) (p : IsPart rest part) where
  -- the records of one part more
  pub reads_part : (before read : ReadRecords) → before.line ≡ line → before.last.now ≡ last → before.rises ≡ rises
      → ((rs : List Record) → HasRead first rs before → (more : List Record) × Records k part more × HasRead first (rs ++ more) read)
      → Reads k t p.rest read.last.now read.rises first read.line
  reads_part before read line_is last_is rises_is reads =
      let more = reads was.read (record { number = line_is ∙ was.number; last_is = last_is ∙ was.last_is; rise = λ so. was.rise (sym rises_is ∙ so) }) in
      let now = more.2 in
      record {
        read = was.read ++ more.0;
        fronts = fronts_then k t was.read more.0 rest p.rest was.fronts (part_fronts k rest part p more.0 more.1);
        number = now.number;
        last_is = now.last_is;
        rise = now.rise;
      }

  -- a line of the part that is no record is one of the text
  pub part_unread : (e : Error) → IsStuck k line part e → IsUnread k first t e
  part_unread (Io error) stuck = absurd stuck
  part_unread HeaderParsing stuck = stuck
  part_unread Memory stuck = tt
  part_unread (Iter number) stuck =
      let here = part_stuck k rest part p line number stuck in
      let sum = sum_by-append lines_of was.read here.before in
      let before = was.number in
      let behind = here.number in
      record {
        before = was.read ++ here.before;
        rest = here.rest;
        fronts = fronts_then k t was.read here.before rest here.rest was.fronts here.fronts;
        some = here.some;
        bad = here.bad;
        number = omega arith;
      }

-- all is read
pub read_all : (k : Kind) (t last rest : List ℕ) (rises : Bool) (first line : ℕ) → Reads k t rest last rises first line → rest ≡ [] → (rs : List Record) × Records k t rs × (rises ≡ true → Rising rs)
read_all k t last rest rises first line was end = (was.read, fronts_all k t was.read rest end was.fronts, was.rise)

one_line : (r : Record) → 1 ≤ lines_of r
one_line r = by r.object
  where
    by : (o : Option (List ℕ)) → 1 ≤ lines_with o
    by None = omega arith
    by (Some object) = omega arith

-- each line of records is one
pub not_stuck : (k : Kind) (first line : ℕ) (t : List ℕ) (rs : List Record) → Records k t rs → StuckAt k first t line → ⊥
not_stuck k first line t rs h stuck = go t rs h stuck.before stuck.fronts
  where
    go : (t : List ℕ) (rs : List Record) → Records k t rs → (before : List Record) → Fronts k t before stuck.rest → ⊥
    go t [] h [] f = stuck.some (sym f ∙ h)
    go t (r ∷ rs) h [] f = stuck.bad r h.0 (subst (λ (u : List ℕ). Takes k u r h.0) f h.1)
    go t [] h (s ∷ before) f = let fit = three_lines k t s f.0 f.1 in let none : length t ≡ 0 = ap length h in let some = one_line s in absurd (omega arith)
    go t (r ∷ rs) h (s ∷ before) f =
        let same = same_record k t r h.0 s f.0 h.1 f.1 in
        go f.0 rs (subst (λ (u : List ℕ). Records k u rs) same.1 h.2) before f.2
