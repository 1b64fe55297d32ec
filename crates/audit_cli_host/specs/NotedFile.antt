-- A file whose failures are noted.
use Rattle.audit_cli_host.specs.declared.noted_file.NotedFile.{NotedFile}

-- the file that is wrapped
abbrev pub file_within : {F : Type 0} → NotedFile F → F
file_within noted = noted.inner
