-- The number of each kind of an error of the device.
use Rattle.std.specs.Prelude.{ℕ}
use Rattle.std.specs.declared.io.ErrorKind.{ErrorKind}
use Rattle.std.specs.declared.io.ErrorKind.TheVariants.{NotFound, PermissionDenied, ConnectionRefused, ConnectionReset, HostUnreachable, NetworkUnreachable, ConnectionAborted, NotConnected, AddrInUse, AddrNotAvailable, NetworkDown, BrokenPipe, AlreadyExists, WouldBlock, NotADirectory, IsADirectory, DirectoryNotEmpty, ReadOnlyFilesystem, FilesystemLoop, StaleNetworkFileHandle, InvalidInput, InvalidData, TimedOut, WriteZero, StorageFull, NotSeekable, QuotaExceeded, FileTooLarge, ResourceBusy, ExecutableFileBusy, Deadlock, CrossesDevices, TooManyLinks, InvalidFilename, ArgumentListTooLong, Interrupted, Unsupported, UnexpectedEof, OutOfMemory, InProgress, Other, Uncategorized}

-- by its place in the list of kinds
abbrev pub number_of_kind : ErrorKind → ℕ
number_of_kind NotFound = 0
number_of_kind PermissionDenied = 1
number_of_kind ConnectionRefused = 2
number_of_kind ConnectionReset = 3
number_of_kind HostUnreachable = 4
number_of_kind NetworkUnreachable = 5
number_of_kind ConnectionAborted = 6
number_of_kind NotConnected = 7
number_of_kind AddrInUse = 8
number_of_kind AddrNotAvailable = 9
number_of_kind NetworkDown = 10
number_of_kind BrokenPipe = 11
number_of_kind AlreadyExists = 12
number_of_kind WouldBlock = 13
number_of_kind NotADirectory = 14
number_of_kind IsADirectory = 15
number_of_kind DirectoryNotEmpty = 16
number_of_kind ReadOnlyFilesystem = 17
number_of_kind FilesystemLoop = 18
number_of_kind StaleNetworkFileHandle = 19
number_of_kind InvalidInput = 20
number_of_kind InvalidData = 21
number_of_kind TimedOut = 22
number_of_kind WriteZero = 23
number_of_kind StorageFull = 24
number_of_kind NotSeekable = 25
number_of_kind QuotaExceeded = 26
number_of_kind FileTooLarge = 27
number_of_kind ResourceBusy = 28
number_of_kind ExecutableFileBusy = 29
number_of_kind Deadlock = 30
number_of_kind CrossesDevices = 31
number_of_kind TooManyLinks = 32
number_of_kind InvalidFilename = 33
number_of_kind ArgumentListTooLong = 34
number_of_kind Interrupted = 35
number_of_kind Unsupported = 36
number_of_kind UnexpectedEof = 37
number_of_kind OutOfMemory = 38
number_of_kind InProgress = 39
number_of_kind Other = 40
number_of_kind Uncategorized = 41
