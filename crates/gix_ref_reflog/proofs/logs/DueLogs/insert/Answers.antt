use Rattle.std.proofs.Common.{◌≡◌, ◌≤◌, ◌++◌, Bool, true, false, length, map, ap, refl, sym, ◌∙◌, arith, ℕ, Option, Some, None}
use Rattle.std.specs.Prelude.{bytes_eq, ◌||◌, Vec}
use Rattle.std.specs.declared.alloc.Global.{Global}
use Rattle.std.proofs.Math.Nat.{min-le_left, min-le_right}
use Rattle.std.proofs.lemmas.Slice.Eq.{bytes_eq-Decides}
use Rattle.gix_ref_reflog.specs.declared.logs.DueLogs.{DueLogs}
use Rattle.gix_ref_reflog.specs.internal.SeenLogs.{due_paths, last_path}
use Rattle.gix_ref_reflog.proofs.LogPaths.{key_added}
use Rattle.gix_ref_reflog.proofs.logs.DueLogs.insert.Goals as goal
use Rattle.gix_ref_reflog.proofs.logs.DueLogs.insert.Goals.{in-Some+in_ok-insert, in_default}
use Rattle.gix_ref_transaction.specs.OwnLocks.{is_in}

none_left : (o : Option (Vec ℕ Global)) → ((x : Vec ℕ Global) → o ≡ Some x → ⊥) → o ≡ None
none_left None other = refl
none_left (Some x) other = absurd (other x refl)

pub returns-clause-added : goal.returns-clause-added
returns-clause-added c q =
    let s = c.args.self.now in
    let p = c.args.path in
    elim c.match-replace.branch [
      | in-Some+in_ok-insert w ↦
          ap (λ (x : DueLogs). is_in (due_paths x) q) w.self-is
          ∙ (ap (λ (l : Option (Vec ℕ Global)). is_in (last_path l ++ map (λ (k : Vec ℕ Global). k.items) w.insert.new.self.keys) q) c.replace.ensures.after
          ∙ (ap (λ (b : Bool). bytes_eq p.items q || b) (key_added q w.in-Some.before s.earlier.keys w.insert.new.self.keys w.in_ok-insert.field-0 w.in_ok-insert.ensures.added w.in_ok-insert.ensures.keys)
          ∙ ap (λ (l : Option (Vec ℕ Global)). bytes_eq p.items q || is_in (last_path l ++ map (λ (k : Vec ℕ Global). k.items) s.earlier.keys) q) (sym w.in-Some.is ∙ c.replace.ensures.value)))
      | in_default w ↦
          ap (λ (x : DueLogs). is_in (due_paths x) q) w.self-is
          ∙ (ap (λ (l : Option (Vec ℕ Global)). is_in (last_path l ++ map (λ (k : Vec ℕ Global). k.items) s.earlier.keys) q) c.replace.ensures.after
          ∙ ap (λ (l : Option (Vec ℕ Global)). bytes_eq p.items q || is_in (last_path l ++ map (λ (k : Vec ℕ Global). k.items) s.earlier.keys) q) (sym (none_left c.replace.result w.in_default.not-Some) ∙ c.replace.ensures.value))
    ]

pub returns-clause-bounded : goal.returns-clause-bounded
returns-clause-bounded c bounded q within = by (bytes_eq c.args.path.items q) refl (is_in (due_paths c.args.self.now) q) refl (sym (returns-clause-added c q) ∙ within)
  where
    kept : c.match-replace.self.shortest ≡ c.args.self.now.shortest
    kept = elim c.match-replace.branch [
      | in-Some+in_ok-insert w ↦ ap (λ (x : DueLogs). x.shortest) w.self-is
      | in_default w ↦ ap (λ (x : DueLogs). x.shortest) w.self-is
    ]

    by : (same : Bool) → bytes_eq c.args.path.items q ≡ same → (before : Bool) → is_in (due_paths c.args.self.now) q ≡ before → (same || before) ≡ true → c.min-self.result ≤ length q
    by true e before f h = omega (arith, c.min-self.ensures, c.len-len.ensures, c.args.path.ok, min-le_right c.match-replace.self.shortest c.len-len.result, ap length ((bytes_eq-Decides c.args.path.items q).0 e))
    by false e true f h = omega (arith, c.min-self.ensures, kept, min-le_left c.match-replace.self.shortest c.len-len.result, bounded q f)
    by false e false f h = absurd (differ h)
      where
        differ : false ≡ true → ⊥
        differ x = cc
