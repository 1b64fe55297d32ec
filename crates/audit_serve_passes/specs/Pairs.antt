-- What is known of a stream whose two directions are a reader and a writer of std, or one value.
use Rattle.std.specs.Prelude.{◌≡◌, ℕ, false, ◌||◌, Option, List}
use Rattle.audit_serve_passes.specs.declared.stream_pair.StreamPair.{StreamPair}
use Rattle.audit_serve_passes.specs.declared.duplex_stream.DuplexStream.{DuplexStream}
use Rattle.audit_serve_passes.specs.Streams.{StreamCall, has_failed_write, CallModel, StreamModel}
use Rattle.audit_serve_passes.specs.Known.{IsReadBy, IsWrittenBy}
use Rattle.audit_serve_passes.specs.CallLaws.{closed_none, closed_more}
use Rattle.audit_serve_passes.specs.CallLaws.{nothing_read, read_more, nothing_written, written_more}

-- ---- a reader and a writer

abbrev pub writer_of : {R W : Type 0} → StreamPair R W → W
writer_of pair = pair.writer

-- The calls read a prefix of the reader's remaining bytes, and the bytes that the writer holds grew by what was
-- written.
pub record IsPairCalled {R W : Type 0} (remaining : R → Option (List ℕ)) (contents : W → Option (List ℕ))
    (old new : StreamPair R W) (calls : List StreamCall) : Type 0 where
  pub read : IsReadBy (remaining old.reader) (remaining new.reader) calls
  pub written : IsWrittenBy (contents old.writer) (contents new.writer) calls
  pub closed : new.closed ≡ (old.closed || has_failed_write calls)

abbrev pub pair_calls : {R W : Type 0} → (R → Option (List ℕ)) → (W → Option (List ℕ)) → CallModel (StreamPair R W)
pair_calls remaining contents = record {
  DidCalls = IsPairCalled remaining contents;
  nothing_called = λ pair. record {
    read = nothing_read (remaining pair.reader);
    written = nothing_written (contents pair.writer);
    closed = closed_none pair.closed;
  };
  more_called = λ old mid new calls later first second. record {
    read = read_more (remaining old.reader) (remaining mid.reader) (remaining new.reader) calls later
        first.read second.read;
    written = written_more (contents old.writer) (contents mid.writer) (contents new.writer) calls later
        first.written second.written;
    closed = closed_more old.closed mid.closed new.closed calls later first.closed second.closed;
  };
}

abbrev pub pair_model : {R W : Type 0} → (R → Option (List ℕ)) → (W → Option (List ℕ))
    → StreamModel (StreamPair R W)
pair_model remaining contents = record {
  calls = pair_calls remaining contents;
  closed = λ pair. pair.closed;
  closed_by_calls = λ old new calls did. did.closed;
}

-- a new pair: nothing was read, nothing written, and no write has failed
pub record IsNewPair {R W : Type 0} (reader : R) (writer : W) (pair : StreamPair R W) : Type 0 where
  pub reader_is : pair.reader ≡ reader
  pub writer_is : pair.writer ≡ writer
  pub closed : pair.closed ≡ false

-- ---- one value

abbrev pub inner_of : {T : Type 0} → DuplexStream T → T
inner_of duplex = duplex.inner

-- The calls were those of the value.
pub record IsDuplexCalled {T : Type 0} (M : CallModel T) (old new : DuplexStream T)
    (calls : List StreamCall) : Type 0 where
  pub inner : M.DidCalls old.inner new.inner calls
  pub closed : new.closed ≡ (old.closed || has_failed_write calls)

abbrev pub duplex_calls : {T : Type 0} → CallModel T → CallModel (DuplexStream T)
duplex_calls M = record {
  DidCalls = IsDuplexCalled M;
  nothing_called = λ duplex. record { inner = M.nothing_called duplex.inner; closed = closed_none duplex.closed };
  more_called = λ old mid new calls later first second. record {
    inner = M.more_called old.inner mid.inner new.inner calls later first.inner second.inner;
    closed = closed_more old.closed mid.closed new.closed calls later first.closed second.closed;
  };
}

abbrev pub duplex_model : {T : Type 0} → CallModel T → StreamModel (DuplexStream T)
duplex_model M = record {
  calls = duplex_calls M;
  closed = λ duplex. duplex.closed;
  closed_by_calls = λ old new calls did. did.closed;
}

-- a new stream over a value: no write has failed
pub record IsNewDuplex {T : Type 0} (inner : T) (duplex : DuplexStream T) : Type 0 where
  pub inner_is : duplex.inner ≡ inner
  pub closed : duplex.closed ≡ false

-- ---- a value of which nothing is known, such as a socket

abbrev pub unknown_calls : {T : Type 0} → CallModel T
unknown_calls = record {
  DidCalls = λ old new calls. Unit {0};
  nothing_called = λ value. tt;
  more_called = λ old mid new calls later first second. tt;
}
