-- No two different outcomes satisfy a contract of this crate.
use mathlib.Core.Path.{refl}
use denote.RattleType.{RattleType}
use denote.Param.Laws.{Laws}
use mir.Syntax.{Dict}
use Rattle.std.specs.declared.io.Eprint.{Ghosts}
use Rattle.promise.specs.Unique.{Unique, same}
use Rattle.program.proofs.end_of.Kinds as end_of-kinds
use Rattle.program.proofs.end_of.Reads as end_of-reads
use Rattle.program.proofs.exit_code.Kinds as exit_code-kinds
use Rattle.program.proofs.exit_code.Reads as exit_code-reads
use Rattle.program.proofs.hex_digit.Kinds as hex_digit-kinds
use Rattle.program.proofs.hex_digit.Reads as hex_digit-reads
use Rattle.program.proofs.misused.Kinds as misused-kinds
use Rattle.program.proofs.misused.Reads as misused-reads
use Rattle.program.proofs.refused.Kinds as refused-kinds
use Rattle.program.proofs.refused.Reads as refused-reads
use Rattle.program.proofs.status.Kinds as status-kinds
use Rattle.program.proofs.status.Reads as status-reads
use Rattle.program.proofs.two_hex_digits.Kinds as two_hex_digits-kinds
use Rattle.program.proofs.two_hex_digits.Reads as two_hex_digits-reads
use Rattle.program.proofs.unread.Kinds as unread-kinds
use Rattle.program.proofs.unread.Reads as unread-reads
use Rattle.program.proofs.unwritten.Kinds as unwritten-kinds
use Rattle.program.proofs.unwritten.Reads as unwritten-reads

pub status_once : Unique status-kinds.ps status-kinds.r status-reads.Pre status-reads.Post
status_once κs a p z₁ z₂ ws₁ ws₂ h₁ h₂ = (same h₁ h₂, refl)

pub exit_code_once : Unique exit_code-kinds.ps exit_code-kinds.r exit_code-reads.Pre exit_code-reads.Post
exit_code_once κs a p z₁ z₂ ws₁ ws₂ h₁ h₂ = (λ i. record { status = same h₁.0 h₂.0 i }, refl)

pub hex_digit_once : Unique hex_digit-kinds.ps hex_digit-kinds.r hex_digit-reads.Pre hex_digit-reads.Post
hex_digit_once κs a p z₁ z₂ ws₁ ws₂ h₁ h₂ = (same h₁.0 h₂.0, refl)

pub two_hex_digits_once : Unique two_hex_digits-kinds.ps two_hex_digits-kinds.r two_hex_digits-reads.Pre two_hex_digits-reads.Post
two_hex_digits_once κs a p z₁ z₂ ws₁ ws₂ h₁ h₂ = (same h₁ h₂, refl)

-- whatever the runtime is that says the line
module _ (T : RattleType) (L : Laws T) (R : Ghosts T.Denot) (D : Dict) where
  pub unread_once : Unique (unread-kinds.ps T L) (unread-kinds.r T L) (unread-reads.Pre T L R D) (unread-reads.Post T L R D)
  unread_once κs a p z₁ z₂ ws₁ ws₂ h₁ h₂ = (same h₁ h₂, refl)

  pub unwritten_once : Unique (unwritten-kinds.ps T L) (unwritten-kinds.r T L) (unwritten-reads.Pre T L R D) (unwritten-reads.Post T L R D)
  unwritten_once κs a p z₁ z₂ ws₁ ws₂ h₁ h₂ = (same h₁ h₂, refl)

  pub misused_once : Unique (misused-kinds.ps T L) (misused-kinds.r T L) (misused-reads.Pre T L R D) (misused-reads.Post T L R D)
  misused_once κs a p z₁ z₂ ws₁ ws₂ h₁ h₂ = (same h₁ h₂, refl)

  pub refused_once : Unique (refused-kinds.ps T L) (refused-kinds.r T L) (refused-reads.Pre T L R D) (refused-reads.Post T L R D)
  refused_once κs a p z₁ z₂ ws₁ ws₂ h₁ h₂ = (same h₁ h₂, refl)

  pub end_of_once : Unique (end_of-kinds.ps T L) (end_of-kinds.r T L) (end_of-reads.Pre T L R D) (end_of-reads.Post T L R D)
  end_of_once κs a p z₁ z₂ ws₁ ws₂ h₁ h₂ = (same h₁ h₂, refl)
