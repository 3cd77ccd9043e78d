-- Reading and writing undo each other: "what was written is read as the fields that were given, and what was read from a good body is written as the same bytes" (docs/WRITE.md).
use Rattle.std.specs.Prelude.{ℕ, ◌≡◌, true, List}
use Rattle.editions.specs.declared.Edition.{Edition}
use Rattle.body.specs.Read.{read_body, good_body}
use Rattle.numbers.specs.Numbers.{fields_of, text_of}
use Rattle.numbers.specs.Drafts.{draft_kind, fields_from, draft_body, draft_number}

-- the numbers and the text of a body that is read
abbrev pub numbers_read : Edition → List ℕ → List ℕ
numbers_read ed b = fields_of ed (read_body ed b) b

abbrev pub text_read : Edition → List ℕ → List ℕ
text_read ed b = text_of ed (read_body ed b) b

-- the numbers and the text that are read of a body can be written, and are written as its bytes
pub record WrittenBack (ed : Edition) (b : List ℕ) : Type 0 where
  pub allowed : draft_number ed (numbers_read ed b) (text_read ed b) ≡ 0
  pub same_bytes : draft_body ed (numbers_read ed b) (text_read ed b) ≡ b

-- the body that numbers and text are written as is good, and what is read of it is of the same kind and stands for the same fields; numbers and bytes that the message does not have are read as zeros
pub record ReadBack (ed : Edition) (l x : List ℕ) : Type 0 where
  pub good : good_body ed (draft_body ed l x) ≡ true
  pub same_kind : draft_kind (numbers_read ed (draft_body ed l x)) ≡ draft_kind l
  pub same_fields : fields_from ed (draft_kind l) (numbers_read ed (draft_body ed l x)) (text_read ed (draft_body ed l x)) ≡ fields_from ed (draft_kind l) l x
