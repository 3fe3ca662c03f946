-- the program's command line, as `clap` reads it
use Rattle.std.proofs.Common.{◌≡◌, ◌≤◌, arith, ◌==◌, ◌&&◌, ℕ, Bool, true, false, true≢false, not, cond, Option, Some, None, List, [], ◌∷◌, codes, refl, sym, ap, ◌∙◌, is_some, length, nat_le}
use Rattle.std.specs.Prelude.{◌||◌}
use Rattle.std.proofs.Common.{subst, option_map, Box}
use Rattle.std.proofs.lemmas.Bool.{eqb-true, leb-true}
use Rattle.std.proofs.lemmas.Slice.Eq.{bytes_eq-Decides}
use Rattle.std.specs.List.{list_all}
use Rattle.std.specs.Box.{box_value}
use Rattle.std.specs.Str.{bytes_eq}
use Rattle.clap.specs.Simple.{subcommand_rows}
use Rattle.clap.specs.Values.{reading_of}
use Rattle.clap.specs.declared.builder.value_parser.ValueParser.TheVariants.{String}
use Rattle.clap.specs.declared.parser.matches.ValueSource.TheVariants.{CommandLine}
use Rattle.clap.specs.declared.parser.matches.SubCommand.{SubCommand}
use Rattle.clap.specs.declared.parser.matches.ArgMatches.TheViews.{out-SubCommand}
use Rattle.clap.specs.Walk.{Row, Text, first_of}
use Rattle.clap.specs.Simple.{App, is_simple, new_shape, subcommand_of, with_subcommand}
use Rattle.clap.specs.Lexer.{long_of, short_of}
use Rattle.clap.specs.Takes.{takes}
use Rattle.clap.proofs.OnLiterals.{clap_on_literals}
use Rattle.command_line.specs.Numbers.{is_count, is_digit, is_number, is_numeral, number_of}
use Rattle.command_line.specs.JournalTasks.{JournalTask, asked_journal, init, recover}
use Rattle.command_line.specs.Tasks.{Task, asked, gen, is_operand, run, select}
use Rattle.command_line.specs.Wanted.{Asks, is_listed}
use Rattle.command_line.specs.Found.{HasNumbers, HasOperand, Holds, HoldsPath, IsFound, gen_shape, operand_shape}
use Rattle.command_line.proofs.Both.{both, both_first, both_second}

-- the program without its commands
abbrev pub bare : App
bare = record { top = record (new_shape (codes "qpidq")) { no_binary_name = true }; subs = [] }

abbrev pub program : App
program =
    with_subcommand (with_subcommand (with_subcommand (with_subcommand (with_subcommand bare (new_shape (codes "run"))) (operand_shape (codes "select") (codes "TEXT"))) gen_shape)
    (operand_shape (codes "init") (codes "PATH")))
    (operand_shape (codes "recover") (codes "PATH"))

pub program_is_simple : is_simple program ≡ true
unfolding clap_on_literals
program_is_simple = refl

run_taken : takes program (codes "run" ∷ []) ≡ true
unfolding clap_on_literals
run_taken = refl

run_found : subcommand_of program (codes "run" ∷ []) ≡ Some (codes "run", [])
unfolding clap_on_literals
run_found = refl

-- a word that does not begin with a hyphen is no flag
module _ (b : ℕ) (bs : List ℕ) (e : (b == 45) ≡ false) where
  no_long : long_of (b ∷ bs) ≡ None
  no_long = rw e refl

  no_short : short_of (b ∷ bs) ≡ None
  no_short = rw e refl

select_taken : (b : ℕ) (bs : List ℕ) → (b == 45) ≡ false → takes program (codes "select" ∷ (b ∷ bs) ∷ []) ≡ true
unfolding clap_on_literals
select_taken b bs e = rw e (rw e refl)

init_taken : (b : ℕ) (bs : List ℕ) → (b == 45) ≡ false → takes program (codes "init" ∷ (b ∷ bs) ∷ []) ≡ true
unfolding clap_on_literals
init_taken b bs e = rw e (rw e refl)

recover_taken : (b : ℕ) (bs : List ℕ) → (b == 45) ≡ false → takes program (codes "recover" ∷ (b ∷ bs) ∷ []) ≡ true
unfolding clap_on_literals
recover_taken b bs e = rw e (rw e refl)

abbrev row : List ℕ → List ℕ → Row
row id text = record { id = id; values = text ∷ []; count = None; source = Some CommandLine; reading = reading_of String }

abbrev text_row : List ℕ → Row
text_row text = row (codes "TEXT") text

abbrev path_row : List ℕ → Row
path_row path = row (codes "PATH") path

-- words of numbers begin with a digit

not_dash : (a : ℕ) → is_digit a ≡ true → (a == 45) ≡ false
not_dash a digit = by_test (a == 45) refl where
  by_test : (b : Bool) → (a == 45) ≡ b → b ≡ false
  by_test false e = refl
  by_test true e =
      let P : ℕ → Type 0 = λ n. is_digit n ≡ true in
      absurd (true≢false (sym (subst P (eqb-true a 45 e) digit)))

gen_taken : (a : ℕ) (ds : List ℕ) (b : ℕ) (bs : List ℕ) → (a == 45) ≡ false → (b == 45) ≡ false → takes program (codes "gen" ∷ (a ∷ ds) ∷ (b ∷ bs) ∷ []) ≡ true
unfolding clap_on_literals
gen_taken a ds b bs e f = rw e (rw e (rw f (rw f refl)))

abbrev number_rows : List ℕ → List ℕ → List Row
number_rows number count = row (codes "NUMBER") number ∷ row (codes "COUNT") count ∷ []

gen_found : (a : ℕ) (ds : List ℕ) (b : ℕ) (bs : List ℕ) → (a == 45) ≡ false → (b == 45) ≡ false → subcommand_of program (codes "gen" ∷ (a ∷ ds) ∷ (b ∷ bs) ∷ []) ≡ Some (codes "gen", number_rows (a ∷ ds) (b ∷ bs))
unfolding clap_on_literals
gen_found a ds b bs e f = rw e (rw e (rw f (rw f refl)))

select_found : (b : ℕ) (bs : List ℕ) → (b == 45) ≡ false → subcommand_of program (codes "select" ∷ (b ∷ bs) ∷ []) ≡ Some (codes "select", text_row (b ∷ bs) ∷ [])
unfolding clap_on_literals
select_found b bs e = rw e (rw e refl)

init_found : (b : ℕ) (bs : List ℕ) → (b == 45) ≡ false → subcommand_of program (codes "init" ∷ (b ∷ bs) ∷ []) ≡ Some (codes "init", path_row (b ∷ bs) ∷ [])
unfolding clap_on_literals
init_found b bs e = rw e (rw e refl)

recover_found : (b : ℕ) (bs : List ℕ) → (b == 45) ≡ false → subcommand_of program (codes "recover" ∷ (b ∷ bs) ∷ []) ≡ Some (codes "recover", path_row (b ∷ bs) ∷ [])
unfolding clap_on_literals
recover_found b bs e = rw e (rw e refl)

-- Words of the list are taken, and what is found of them is what they ask for

pub record IsReadAs (words : List (List ℕ)) : Type 0 where
  pub taken : takes program words ≡ true
  pub holds : Holds (asked words) (subcommand_of program words)
  pub path : HoldsPath (asked_journal words) (subcommand_of program words)

same_bytes : (a b : List ℕ) → bytes_eq a b ≡ true → a ≡ b
same_bytes a b e = (bytes_eq-Decides a b).0 e

one_word : (word : List ℕ) (is : Bool) → bytes_eq word (codes "run") ≡ is → (is_some (cond is (Some run) None) || false) ≡ true → IsReadAs (word ∷ [])
one_word word false is h = absurd (true≢false (sym h))
one_word word true is h =
    let P : List ℕ → Type 0 = λ w. IsReadAs (w ∷ []) in
    subst P (sym (same_bytes word (codes "run") is)) (record { taken = run_taken; holds = ([], run_found); path = tt })

select_word : (text : List ℕ) → is_operand text ≡ true → IsReadAs (codes "select" ∷ text ∷ [])
select_word [] e = absurd (true≢false (sym e))
select_word (b ∷ bs) e = dash (b == 45) refl e
  where
    dash : (is : Bool) → (b == 45) ≡ is → not is ≡ true → IsReadAs (codes "select" ∷ (b ∷ bs) ∷ [])
    dash true is h = absurd (true≢false (sym h))
    dash false is h = record { taken = select_taken b bs is; holds = rw is (text_row (b ∷ bs) ∷ [], select_found b bs is, refl); path = tt }

init_word : (text : List ℕ) → is_operand text ≡ true → IsReadAs (codes "init" ∷ text ∷ [])
init_word [] e = absurd (true≢false (sym e))
init_word (b ∷ bs) e = dash (b == 45) refl e
  where
    dash : (is : Bool) → (b == 45) ≡ is → not is ≡ true → IsReadAs (codes "init" ∷ (b ∷ bs) ∷ [])
    dash true is h = absurd (true≢false (sym h))
    dash false is h = record { taken = init_taken b bs is; path = rw is (path_row (b ∷ bs) ∷ [], init_found b bs is, refl); holds = tt }

recover_word : (text : List ℕ) → is_operand text ≡ true → IsReadAs (codes "recover" ∷ text ∷ [])
recover_word [] e = absurd (true≢false (sym e))
recover_word (b ∷ bs) e = dash (b == 45) refl e
  where
    dash : (is : Bool) → (b == 45) ≡ is → not is ≡ true → IsReadAs (codes "recover" ∷ (b ∷ bs) ∷ [])
    dash true is h = absurd (true≢false (sym h))
    dash false is h = record { taken = recover_taken b bs is; path = rw is (path_row (b ∷ bs) ∷ [], recover_found b bs is, refl); holds = tt }

no_operand : (text : List ℕ) (first second third : Bool)
    → (is_some (cond (first && false) (Some (select text)) None) || is_some (cond (second && false) (Some (init text)) (cond (third && false) (Some (recover text)) None))) ≡ true → ⊥
no_operand text true true true h = true≢false (sym h)
no_operand text true true false h = true≢false (sym h)
no_operand text true false true h = true≢false (sym h)
no_operand text true false false h = true≢false (sym h)
no_operand text false true true h = true≢false (sym h)
no_operand text false true false h = true≢false (sym h)
no_operand text false false true h = true≢false (sym h)
no_operand text false false false h = true≢false (sym h)

two_words : (word text : List ℕ) (first second third plain : Bool) → bytes_eq word (codes "select") ≡ first → bytes_eq word (codes "init") ≡ second → bytes_eq word (codes "recover") ≡ third → is_operand text ≡ plain
    → (is_some (cond (first && plain) (Some (select text)) None) || is_some (cond (second && plain) (Some (init text)) (cond (third && plain) (Some (recover text)) None))) ≡ true → IsReadAs (word ∷ text ∷ [])
two_words word text first second third false is_first is_second is_third operand h = absurd (no_operand text first second third h)
two_words word text true second third true is_first is_second is_third operand h =
    let P : List ℕ → Type 0 = λ w. IsReadAs (w ∷ text ∷ []) in
    subst P (sym (same_bytes word (codes "select") is_first)) (select_word text operand)
two_words word text false true third true is_first is_second is_third operand h =
    let P : List ℕ → Type 0 = λ w. IsReadAs (w ∷ text ∷ []) in
    subst P (sym (same_bytes word (codes "init") is_second)) (init_word text operand)
two_words word text false false true true is_first is_second is_third operand h =
    let P : List ℕ → Type 0 = λ w. IsReadAs (w ∷ text ∷ []) in
    subst P (sym (same_bytes word (codes "recover") is_third)) (recover_word text operand)
two_words word text false false false true is_first is_second is_third operand h = absurd (true≢false (sym h))

digit_first : (most a : ℕ) (ds : List ℕ) → is_numeral most (a ∷ ds) ≡ true → is_digit a ≡ true
digit_first most a ds e =
    both_first (is_digit a) (list_all is_digit ds)
    (both_second (nat_le (length (a ∷ ds)) most) (list_all is_digit (a ∷ ds))
    (both_second (not (length (a ∷ ds) == 0)) (nat_le (length (a ∷ ds)) most && list_all is_digit (a ∷ ds)) e))

gen_word : (number count : List ℕ) → is_number number ≡ true → is_count count ≡ true → IsReadAs (codes "gen" ∷ number ∷ count ∷ [])
gen_word [] count n c = absurd (true≢false (sym n))
gen_word (a ∷ ds) [] n c = absurd (true≢false (sym c))
gen_word (a ∷ ds) (b ∷ bs) n c =
    let number : List ℕ = a ∷ ds in
    let count : List ℕ = b ∷ bs in
    let e = not_dash a (digit_first 19 a ds n) in
    let f = not_dash b (digit_first 6 b bs (both_first (is_numeral 6 count) (nat_le 1 (number_of count) && nat_le (number_of count) 100000) c)) in
    let found : Option (Text × List Row) = subcommand_of program (codes "gen" ∷ number ∷ count ∷ []) in
    let P : Bool → Type 0 = λ test. Holds (cond test (Some (gen (number_of number) (number_of count))) None) found in
    record {
      taken = gen_taken a ds b bs e f;
      holds = subst P (sym (both (is_number number) (is_count count) n c)) (
        number_rows number count,
        gen_found a ds b bs e f,
        record { number_text = number; count_text = count; number_found = refl; count_found = refl; number_shape = n; count_shape = c; number_is = refl; count_is = refl },
      );
      path = tt;
    }

three_words : (word number count : List ℕ) (test : Bool) → (bytes_eq word (codes "gen") && (is_number number && is_count count)) ≡ test
    → (is_some (cond test (Some (gen (number_of number) (number_of count))) None) || false) ≡ true → IsReadAs (word ∷ number ∷ count ∷ [])
three_words word number count false is h = absurd (true≢false (sym h))
three_words word number count true is h =
    let P : List ℕ → Type 0 = λ w. IsReadAs (w ∷ number ∷ count ∷ []) in
    let shapes = both_second (bytes_eq word (codes "gen")) (is_number number && is_count count) is in
    subst P (sym (same_bytes word (codes "gen") (both_first (bytes_eq word (codes "gen")) (is_number number && is_count count) is)))
    (gen_word number count (both_first (is_number number) (is_count count) shapes) (both_second (is_number number) (is_count count) shapes))

pub is_read : (words : List (List ℕ)) → is_listed words ≡ true → IsReadAs words
is_read [] h = absurd (true≢false (sym h))
is_read (word ∷ []) h = one_word word (bytes_eq word (codes "run")) refl h
is_read (word ∷ text ∷ []) h = two_words word text (bytes_eq word (codes "select")) (bytes_eq word (codes "init")) (bytes_eq word (codes "recover")) (is_operand text) refl refl refl refl h
is_read (word ∷ number ∷ count ∷ []) h = three_words word number count (bytes_eq word (codes "gen") && (is_number number && is_count count)) refl h
is_read (word ∷ text ∷ other ∷ more ∷ words) h = absurd (true≢false (sym h))

-- What was found is what is asked for

module _ {Z : Type 0} where
  pub name_found : (o : Option (Box SubCommand Z)) → option_map (λ p. p.0) (subcommand_rows o) ≡ option_map (λ b. (out-SubCommand (box_value b)).name.now) o
  name_found None = refl
  name_found (Some b) = refl

-- the command that was found has this name
abbrev IsNamed : List ℕ → Option (Text × List Row) → Type 0
IsNamed name found = option_map (λ p. p.0) found ≡ Some name

named : (name : List ℕ) (rows : List Row) (found : Option (Text × List Row)) → found ≡ Some (name, rows) → IsNamed name found
named name rows found is = ap (option_map (λ p. p.0)) is

rows_same : (name : List ℕ) (rows others : List Row) (found : Option (Text × List Row)) → found ≡ Some (name, rows) → option_map (λ p. p.1) found ≡ Some others → rows ≡ others
rows_same name rows others found is same = let both_are : Some rows ≡ Some others = sym (ap (option_map (λ p. p.1)) is) ∙ same in cc

-- two names that differ are not both found
other_name : (one other : List ℕ) (found : Option (Text × List Row)) → bytes_eq one one ≡ true → bytes_eq one other ≡ false → IsNamed one found → IsNamed other found → ⊥
other_name one other found itself differs is_one is_other =
    let both_are : Some one ≡ Some other = sym is_one ∙ is_other in
    let is : one ≡ other = cc in
    true≢false (sym itself ∙ ap (bytes_eq one) is ∙ differs)

-- another command than those of journals was found, so none of these is asked for
no_path : (name : List ℕ) (journal : Option JournalTask) (found : Option (Text × List Row)) → bytes_eq (codes "init") name ≡ false → bytes_eq (codes "recover") name ≡ false → HoldsPath journal found → IsNamed name found → journal ≡ None
no_path name None found not_init not_recover h is = refl
no_path name (Some (init path)) found not_init not_recover h is = absurd (other_name (codes "init") name found refl not_init (named (codes "init") h.0 found h.1) is)
no_path name (Some (recover path)) found not_init not_recover h is = absurd (other_name (codes "recover") name found refl not_recover (named (codes "recover") h.0 found h.1) is)

-- a command of journals was found, so no other is asked for
no_task : (name : List ℕ) (task : Option Task) (found : Option (Text × List Row)) → bytes_eq (codes "run") name ≡ false → bytes_eq (codes "select") name ≡ false → bytes_eq (codes "gen") name ≡ false → Holds task found → IsNamed name found → task ≡ None
no_task name None found not_run not_select not_gen h is = refl
no_task name (Some run) found not_run not_select not_gen h is = absurd (other_name (codes "run") name found refl not_run (named (codes "run") h.0 found h.1) is)
no_task name (Some (select text)) found not_run not_select not_gen h is = absurd (other_name (codes "select") name found refl not_select (named (codes "select") h.0 found h.1) is)
no_task name (Some (gen number count)) found not_run not_select not_gen h is = absurd (other_name (codes "gen") name found refl not_gen (named (codes "gen") h.0 found h.1) is)

-- one of two is asked for
first_of_two : (task : Option Task) (journal : Option JournalTask) → (is_some task || is_some journal) ≡ true → journal ≡ None → is_some task ≡ true
first_of_two (Some task) journal h none = refl
first_of_two None journal h none = absurd (true≢false (sym h ∙ ap is_some none))

second_of_two : (task : Option Task) (journal : Option JournalTask) → (is_some task || is_some journal) ≡ true → task ≡ None → is_some journal ≡ true
second_of_two None journal h none = h
second_of_two (Some task) journal h none = absurd (true≢false (ap is_some none))

select_task : (task : Option Task) (found : Option (Text × List Row)) (rows : List Row) → is_some task ≡ true → Holds task found → IsNamed (codes "select") found → option_map (λ p. p.1) found ≡ Some rows
    → (text : List ℕ) × (task ≡ Some (select text)) × (first_of (codes "TEXT") rows ≡ Some text)
select_task None found rows some h is same = absurd (true≢false (sym some))
select_task (Some run) found rows some h is same = absurd (other_name (codes "run") (codes "select") found refl refl (named (codes "run") h.0 found h.1) is)
select_task (Some (select text)) found rows some h is same = (text, refl, subst (λ (r : List Row). first_of (codes "TEXT") r ≡ Some text) (rows_same (codes "select") h.0 rows found h.1 same) h.2)
select_task (Some (gen number count)) found rows some h is same = absurd (other_name (codes "gen") (codes "select") found refl refl (named (codes "gen") h.0 found h.1) is)

gen_task : (task : Option Task) (found : Option (Text × List Row)) (rows : List Row) → is_some task ≡ true → Holds task found → IsNamed (codes "gen") found → option_map (λ p. p.1) found ≡ Some rows
    → (number count : ℕ) × (task ≡ Some (gen number count)) × HasNumbers number count rows
gen_task None found rows some h is same = absurd (true≢false (sym some))
gen_task (Some run) found rows some h is same = absurd (other_name (codes "run") (codes "gen") found refl refl (named (codes "run") h.0 found h.1) is)
gen_task (Some (select text)) found rows some h is same = absurd (other_name (codes "select") (codes "gen") found refl refl (named (codes "select") h.0 found h.1) is)
gen_task (Some (gen number count)) found rows some h is same = (number, count, refl, subst (HasNumbers number count) (rows_same (codes "gen") h.0 rows found h.1 same) h.2)

-- where the command is neither, the task is to run a script
run_task : (task : Option Task) (found : Option (Text × List Row)) → is_some task ≡ true → Holds task found → (IsNamed (codes "select") found → ⊥) → (IsNamed (codes "gen") found → ⊥) → task ≡ Some run
run_task None found some h no_select no_gen = absurd (true≢false (sym some))
run_task (Some run) found some h no_select no_gen = refl
run_task (Some (select text)) found some h no_select no_gen = absurd (no_select (named (codes "select") h.0 found h.1))
run_task (Some (gen number count)) found some h no_select no_gen = absurd (no_gen (named (codes "gen") h.0 found h.1))

init_task : (journal : Option JournalTask) (found : Option (Text × List Row)) (rows : List Row) → is_some journal ≡ true → HoldsPath journal found → IsNamed (codes "init") found → option_map (λ p. p.1) found ≡ Some rows
    → (path : List ℕ) × (journal ≡ Some (init path)) × (first_of (codes "PATH") rows ≡ Some path)
init_task None found rows some h is same = absurd (true≢false (sym some))
init_task (Some (init path)) found rows some h is same = (path, refl, subst (λ (r : List Row). first_of (codes "PATH") r ≡ Some path) (rows_same (codes "init") h.0 rows found h.1 same) h.2)
init_task (Some (recover path)) found rows some h is same = absurd (other_name (codes "recover") (codes "init") found refl refl (named (codes "recover") h.0 found h.1) is)

recover_task : (journal : Option JournalTask) (found : Option (Text × List Row)) (rows : List Row) → is_some journal ≡ true → HoldsPath journal found → IsNamed (codes "recover") found → option_map (λ p. p.1) found ≡ Some rows
    → (path : List ℕ) × (journal ≡ Some (recover path)) × (first_of (codes "PATH") rows ≡ Some path)
recover_task None found rows some h is same = absurd (true≢false (sym some))
recover_task (Some (init path)) found rows some h is same = absurd (other_name (codes "init") (codes "recover") found refl refl (named (codes "init") h.0 found h.1) is)
recover_task (Some (recover path)) found rows some h is same = (path, refl, subst (λ (r : List Row). first_of (codes "PATH") r ≡ Some path) (rows_same (codes "recover") h.0 rows found h.1 same) h.2)

no_journal : (journal : Option JournalTask) (found : Option (Text × List Row)) → HoldsPath journal found → (IsNamed (codes "init") found → ⊥) → (IsNamed (codes "recover") found → ⊥) → journal ≡ None
no_journal None found h no_init no_recover = refl
no_journal (Some (init path)) found h no_init no_recover = absurd (no_init (named (codes "init") h.0 found h.1))
no_journal (Some (recover path)) found h no_init no_recover = absurd (no_recover (named (codes "recover") h.0 found h.1))

-- what words ask for in which a command was found
module _ (words : List (List ℕ)) (found : Option (Text × List Row)) (f : IsFound words found) where
  pub runs : (IsNamed (codes "select") found → ⊥) → (IsNamed (codes "init") found → ⊥) → (IsNamed (codes "recover") found → ⊥) → (IsNamed (codes "gen") found → ⊥) → (asked words ≡ Some run) × (asked_journal words ≡ None)
  runs no_select no_init no_recover no_gen =
      let none = no_journal (asked_journal words) found f.journal no_init no_recover in
      (run_task (asked words) found (first_of_two (asked words) (asked_journal words) f.listed none) f.task no_select no_gen, none)

  module _ (rows : List Row) (same : option_map (λ p. p.1) found ≡ Some rows) where
    pub selects : IsNamed (codes "select") found → (text : List ℕ) × (asked words ≡ Some (select text)) × (asked_journal words ≡ None) × (first_of (codes "TEXT") rows ≡ Some text)
    selects is =
        let none = no_path (codes "select") (asked_journal words) found refl refl f.journal is in
        let task = select_task (asked words) found rows (first_of_two (asked words) (asked_journal words) f.listed none) f.task is same in
        (task.0, task.1, none, task.2)

    pub generates : IsNamed (codes "gen") found → (number count : ℕ) × (asked words ≡ Some (gen number count)) × (asked_journal words ≡ None) × HasNumbers number count rows
    generates is =
        let none = no_path (codes "gen") (asked_journal words) found refl refl f.journal is in
        let task = gen_task (asked words) found rows (first_of_two (asked words) (asked_journal words) f.listed none) f.task is same in
        (task.0, task.1, task.2, none, task.3)

    pub inits : IsNamed (codes "init") found → (path : List ℕ) × (asked words ≡ None) × (asked_journal words ≡ Some (init path)) × (first_of (codes "PATH") rows ≡ Some path)
    inits is =
        let none = no_task (codes "init") (asked words) found refl refl refl f.task is in
        let task = init_task (asked_journal words) found rows (second_of_two (asked words) (asked_journal words) f.listed none) f.journal is same in
        (task.0, none, task.1, task.2)

    pub recovers : IsNamed (codes "recover") found → (path : List ℕ) × (asked words ≡ None) × (asked_journal words ≡ Some (recover path)) × (first_of (codes "PATH") rows ≡ Some path)
    recovers is =
        let none = no_task (codes "recover") (asked words) found refl refl refl f.task is in
        let task = recover_task (asked_journal words) found rows (second_of_two (asked words) (asked_journal words) f.listed none) f.journal is same in
        (task.0, none, task.1, task.2)

-- a count is from 1 to 100,000
pub counted : (number count : ℕ) (rows : List Row) → HasNumbers number count rows → (1 ≤ count) × (count ≤ 100000)
counted number count rows h =
    let limits = both_second (is_numeral 6 h.count_text) (nat_le 1 (number_of h.count_text) && nat_le (number_of h.count_text) 100000) h.count_shape in
    let least = leb-true 1 (number_of h.count_text) (both_first (nat_le 1 (number_of h.count_text)) (nat_le (number_of h.count_text) 100000) limits) in
    let most = leb-true (number_of h.count_text) 100000 (both_second (nat_le 1 (number_of h.count_text)) (nat_le (number_of h.count_text) 100000) limits) in
    (omega (arith, least, h.count_is), omega (arith, most, h.count_is))
