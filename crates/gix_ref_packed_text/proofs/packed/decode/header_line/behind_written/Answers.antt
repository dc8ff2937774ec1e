use Rattle.std.proofs.Common.{◌≡◌, ◌++◌, List, ℕ, sym, subst, Option, Some, None}
use denote.Ref.{Bor}
use Rattle.std.specs.Prelude.{MatchOption, IfSome}
use Rattle.gix_ref_target.specs.PackedRecords.{header_text}
use Rattle.gix_ref_packed_text.specs.HeaderGrammar.{TakesHeader}
use Rattle.gix_ref_packed_text.specs.WrittenText.{written_header}
use Rattle.gix_ref_packed_text.proofs.ReadBack.{header_back}
use Rattle.gix_ref_packed_text.proofs.packed.decode.header_line.behind_written.Goals as goal

behind : (text : List ℕ) (found : Option (Bor (List ℕ))) → MatchOption found ((rest : List ℕ) → text ≡ header_text ++ rest → ⊥) (λ rest. text ≡ header_text ++ rest.now) → IfSome found (λ rest. TakesHeader text written_header rest.now)
behind text None h = tt
behind text (Some rest) h = subst (λ (t : List ℕ). TakesHeader t written_header rest.now) (sym h) (header_back rest.now)

pub returns : goal.returns
returns c = behind c.args.text.now c.strip_front.result c.strip_front.ensures
